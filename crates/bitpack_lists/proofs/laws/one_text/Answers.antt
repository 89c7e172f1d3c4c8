-- The clauses of the law are lemmas on encoded lists and on loose widths.
use Rattle.bitpack_lists.proofs.lemmas.v1.Soundness1.{one_encoding1, one_list1, no_fault1, loose_fits_smaller}
use Rattle.bitpack_lists.proofs.lemmas.v2.OneEncoding2.{one_encoding2, one_list2, no_fault2}
use Rattle.bitpack_lists.proofs.laws.one_text.Goals as goal

pub returns-clause-encoding : goal.returns-clause-encoding
returns-clause-encoding c = one_encoding1

pub returns-clause-list : goal.returns-clause-list
returns-clause-list c = one_list1

pub returns-clause-fault : goal.returns-clause-fault
returns-clause-fault c = no_fault1

pub returns-clause-loose : goal.returns-clause-loose
returns-clause-loose c = loose_fits_smaller

pub returns-clause-encoding2 : goal.returns-clause-encoding2
returns-clause-encoding2 c = one_encoding2

pub returns-clause-list2 : goal.returns-clause-list2
returns-clause-list2 c = one_list2

pub returns-clause-fault2 : goal.returns-clause-fault2
returns-clause-fault2 c = no_fault2
