-- The count of a directory is that of its ids.
use Rattle.std.proofs.Common.{◌≡◌, ◌∙◌, ap, arith, length}
use Rattle.bitpack_slices.proofs.ForCallers.{bytes_are}
use Rattle.bitpack_wide.proofs.WordReads.{ids_count}
use Rattle.bitpack_wide.specs.Forms.{form_ids}
use Rattle.bitpack_wide.specs.declared.directory.Directory.{Directory}
use Rattle.bitpack_wide.specs.declared.form.Form.{Form}
use Rattle.bitpack_wide.specs.declared.form.Form.TheVariants as form
use Rattle.bitpack_wide.proofs.form.Form.unpack_from.Goals as goal

many : (it : Form) (directory : Directory) → it ≡ form.Words directory → length (form_ids it) ≡ directory.count
many it directory is = ap (λ (f : Form). length (form_ids f)) is ∙ ids_count directory.count directory.words directory.rest.now (bytes_are directory.rest.now directory.are_bytes) directory.sound

pub unpack_from-requires-clause-begin : goal.unpack_from-requires-clause-begin
unpack_from-requires-clause-begin c = let e = many c.args.self c.in-Words.directory c.in-Words.is in omega (arith, c.requires.begin)

pub unpack_from-requires-clause-within : goal.unpack_from-requires-clause-within
unpack_from-requires-clause-within c = let e = many c.args.self c.in-Words.directory c.in-Words.is in omega (arith, c.requires.within)
