-- What is put is what the answer prints.
use Rattle.bitpack.proofs.answer.printing.put_answer.Goals as goal

pub returns-in-Values-clause-ok : goal.returns-in-Values-clause-ok
returns-in-Values-clause-ok g c = rw (c.in-Values.is, ← c.as_slice.ensures.value) c.put_values.ensures.ok

pub returns-in-Values-clause-err : goal.returns-in-Values-clause-err
returns-in-Values-clause-err g c = rw (c.in-Values.is, ← c.as_slice.ensures.value) c.put_values.ensures.err

pub returns-in-List-clause-ok : goal.returns-in-List-clause-ok
returns-in-List-clause-ok g c = rw (c.in-List.is, ← c.as_slice-in-List.ensures.value) c.put_list.ensures.ok

pub returns-in-List-clause-err : goal.returns-in-List-clause-err
returns-in-List-clause-err g c = rw (c.in-List.is, ← c.as_slice-in-List.ensures.value) c.put_list.ensures.err
