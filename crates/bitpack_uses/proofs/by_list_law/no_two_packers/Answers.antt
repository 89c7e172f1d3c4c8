-- The law `one_command`.
use Rattle.bitpack_uses.proofs.by_list_law.no_two_packers.Goals as goal

pub returns : goal.returns
returns c = λ line packer other command other_command one two. (c.one_command.ensures line packer other command other_command one two).0
