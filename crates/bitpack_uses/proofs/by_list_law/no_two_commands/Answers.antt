-- The law `one_command`.
use Rattle.bitpack_uses.proofs.by_list_law.no_two_commands.Goals as goal

pub returns : goal.returns
returns c = λ line packer command other one two. (c.one_command.ensures line packer packer command other one two).1
