-- The request of a command has the values and bytes of its vectors.
use Rattle.bitpack.proofs.answer.reply_by.Goals as goal

pub returns-in-Width : goal.returns-in-Width
returns-in-Width g c = rw (c.in-Width.is, ← c.as_slice.ensures.value) c.answer_width.ensures

pub returns-in-Pack : goal.returns-in-Pack
returns-in-Pack g c = rw (c.in-Pack.is, ← c.as_slice-in-Pack.ensures.value) c.answer_pack.ensures

pub returns-in-Unpack : goal.returns-in-Unpack
returns-in-Unpack g c = rw (c.in-Unpack.is, ← c.as_slice-in-Unpack.ensures.value) c.answer_unpack.ensures

pub returns-in-Enc : goal.returns-in-Enc
returns-in-Enc g c = rw (c.in-Enc.is, ← c.as_slice-in-Enc.ensures.value) c.answer_enc.ensures

pub returns-in-Dec : goal.returns-in-Dec
returns-in-Dec g c = rw (c.in-Dec.is, ← c.as_slice-in-Dec.ensures.value) c.answer_dec.ensures

pub returns-in-Seek : goal.returns-in-Seek
returns-in-Seek g c = rw (c.in-Seek.is, ← c.as_slice-in-Seek.ensures.value) c.answer_seek.ensures

pub returns-in-Upgrade : goal.returns-in-Upgrade
returns-in-Upgrade g c = rw (c.in-Upgrade.is, ← c.as_slice-in-Upgrade.ensures.value) c.answer_upgrade.ensures
