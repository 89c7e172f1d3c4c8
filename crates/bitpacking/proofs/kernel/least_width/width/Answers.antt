-- One register of codes more is joined; the digits of all joined are the least width.
use Rattle.std.proofs.Common.{List, ◌++◌, ◌≡◌, ◌∙◌, sym, ap, ℕ, ◌+◌, ◌-◌, ◌*◌, ◌^◌, ◌<◌, ◌≤◌, drop, get_or, bit_or, refl, ⊎_elim, arith}
use Rattle.std.proofs.lemmas.Bool.{cases_lt}
use Rattle.std.proofs.lemmas.Nat.{mul-add-lt, le_or_l, le_or_r, or_lt, pow_pos}
use Rattle.std.proofs.lemmas.List.Elements.{All-from_get_or}
use Rattle.bitpacking.specs.Width.{Fits}
use Rattle.bitpacking.proofs.Widths.{or_all, fold-bit_or-lt, Fits-fold-bit_or, Least-bits}
use Rattle.bitpacking.proofs.WordsOfParts.{row_after, row_at}
use Rattle.bitpacking.proofs.RegisterLemmas.{lane-zip2, lane-splat}
use Rattle.bitpacking.proofs.RowSteps.{codes_step}
use Rattle.bitpacking.proofs.kernel.least_width.width.Goals as goal

pub loop-i-init : goal.loop-i-init
loop-i-init g c =
    let lanes : ℕ = g.R.Register.LANES in
    let none : lanes * 0 ≡ 0 = omega arith in
    record {
      codes = rw none (ap (λ f. f c.args.source.now.words.now) (sym c.after-transformer.ensures));
      above = λ w fits fits' k lt. absurd (omega (arith, lt));
      below = λ w fits lane lt.
          rw (lane-splat 0 lanes (g.R.Register.words c.splat-all.result) c.splat-all.ensures lane lt) (pow_pos w);
      below_others = λ w fits lane lt.
          rw (lane-splat 0 lanes (g.R.Register.words c.splat-others.result) c.splat-others.ensures lane lt) (pow_pos w);
      loads = omega arith;
      stores = refl;
      inside = refl;
      held = refl;
    }

pub loop-i-preserved : goal.loop-i-preserved
loop-i-preserved g c =
    let lanes : ℕ = g.R.Register.LANES in
    let count = g.met.R.Register.words_count in
    let i : ℕ = c.loop-i.i in
    let values : List ℕ = c.args.source.now.words.now in
    let all : List ℕ = g.T.Transformer.block_codes c.args.start values in
    let codes : List ℕ = g.R.Register.words c.transform.result in
    let set : List ℕ = g.R.Register.words c.loop-i.others in
    let left : List ℕ = g.T.Transformer.codes c.transform.new.self (drop (lanes * (i + 1)) values) in
    let given : drop (lanes * i) all ≡ codes ++ left =
    codes_step lanes i all values (g.R.Register.words c.load.result) codes (g.T.Transformer.codes c.loop-i.transformer)
    (g.T.Transformer.codes c.transform.new.self) c.loop-i.invariant.codes c.load.ensures.words c.transform.ensures in
    let code : (lane : ℕ) → lane < lanes → get_or all (i * lanes + lane) 0 ≡ get_or codes lane 0 =
    λ lane lt. row_at lanes i all codes left lane (count c.transform.result) given lt in
    let both : (lane : ℕ) → lane < lanes
    → get_or (g.R.Register.words c.or-next.result) lane 0 ≡ bit_or (get_or set lane 0) (get_or codes lane 0) =
    λ lane lt. lane-zip2 bit_or lanes set codes (g.R.Register.words c.or-next.result)
    (count c.loop-i.others) (count c.transform.result) c.or-next.ensures lane lt in
    record {
      codes = row_after lanes i all codes left (count c.transform.result) given;
      above = λ w fits fits' k hk.
          let each : (lane : ℕ) → lane < lanes → bit_or (get_or set lane 0) (get_or codes lane 0) < 2 ^ w =
          λ lane lt. rw (both lane lt) at (fits lane 0 (omega (arith, count c.or-next.result))) in
          ⊎_elim
          (λ (before : k < lanes * i).
          c.loop-i.invariant.above w fits'
          (All-from_get_or (λ v. v < 2 ^ w) set 0 (λ lane h.
          let lt : lane < lanes = omega (arith, count c.loop-i.others) in
          omega (arith, each lane lt, le_or_l (get_or set lane 0) (get_or codes lane 0))))
          k before)
          (λ (ge : lanes * i ≤ k).
          let lane : ℕ = k - lanes * i in
          let lt : k - lanes * i < lanes = omega arith in
          let at_bit : i * lanes + (k - lanes * i) ≡ k = omega arith in
          let e : get_or all k 0 ≡ get_or codes (k - lanes * i) 0 = rw at_bit at (code (k - lanes * i) lt) in
          rw e (omega (arith, each (k - lanes * i) lt, le_or_r (get_or set (k - lanes * i) 0) (get_or codes (k - lanes * i) 0))))
          (cases_lt k (lanes * i));
      below = λ w fits lane lt.
          rw (both lane lt) (or_lt w (get_or set lane 0) (get_or codes lane 0)
          (c.loop-i.invariant.below_others w fits lane lt)
          (rw (code lane lt) at (fits (i * lanes + lane) 0
          (omega (arith, (g.met.T.Transformer.codes_count c.args.start c.args.source.now.words.now ∙ c.requires.block), mul-add-lt i lanes lane 32 c.loop-i-test.true lt)))));
      below_others = c.loop-i.invariant.below;
      loads = omega (arith, c.loop-i.invariant.loads, c.load.ensures.counts.loads);
      stores = omega (arith, c.loop-i.invariant.stores, c.load.ensures.counts.stores);
      inside = omega (arith, c.loop-i.invariant.inside, c.requires.bits, c.load.ensures.counts.inside);
      held = omega (arith, c.loop-i.invariant.held, c.loop-i.invariant.inside, c.requires.bits, c.load.ensures.counts.held);
    }

pub returns-clause-width : goal.returns-clause-width
returns-clause-width g c =
    let lanes : ℕ = g.R.Register.LANES in
    let all : List ℕ = g.T.Transformer.block_codes c.args.start c.args.source.now.words.now in
    let words : List ℕ = g.R.Register.words c.loop-i.all in
    let words' : List ℕ = g.R.Register.words c.loop-i.others in
    let whole : lanes * c.loop-i.i ≡ 32 * lanes = (let e : c.loop-i.i ≡ 32 = omega arith in rw e (omega arith)) in
    let up : (w : ℕ) → bit_or (or_all words) (or_all words') < 2 ^ w → Fits all w =
    λ w lt.
    let fits : Fits words w = Fits-fold-bit_or 0 words w (omega (arith, lt, le_or_l (or_all words) (or_all words'))) in
    let fits' : Fits words' w = Fits-fold-bit_or 0 words' w (omega (arith, lt, le_or_r (or_all words) (or_all words'))) in
    All-from_get_or (λ v. v < 2 ^ w) all 0 (λ k h. c.loop-i.invariant.above w fits fits' k
    (omega (arith, whole, (g.met.T.Transformer.codes_count c.args.start c.args.source.now.words.now ∙ c.requires.block)))) in
    let down : (w : ℕ) → Fits all w → bit_or (or_all words) (or_all words') < 2 ^ w =
    λ w fits. or_lt w (or_all words) (or_all words')
    (fold-bit_or-lt 0 words w (pow_pos w) (All-from_get_or (λ v. v < 2 ^ w) words 0
    (λ lane h. c.loop-i.invariant.below w fits lane (omega (arith, g.met.R.Register.words_count c.loop-i.all)))))
    (fold-bit_or-lt 0 words' w (pow_pos w) (All-from_get_or (λ v. v < 2 ^ w) words' 0
    (λ lane h. c.loop-i.invariant.below_others w fits lane (omega (arith, g.met.R.Register.words_count c.loop-i.others))))) in
    Least-bits all (bit_or (or_all words) (or_all words')) c.most_significant_bit.result (down 32 c.requires.words) up down
    (rw (c.or_lanes.ensures, c.or_lanes-2.ensures) at c.most_significant_bit.ensures)
