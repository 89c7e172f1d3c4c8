-- The law is proved in Requests.
use Rattle.bitpack.proofs.Requests.{one_command}
use Rattle.bitpack.proofs.laws.one_command.Goals as goal

pub returns : goal.returns
returns c = one_command
