-- What is told of the chunks of a set, one container more.
use Rattle.std.proofs.Common.{◌≡◌, ℕ, ◌+◌, ◌^◌, ◌<◌, ◌≤◌, List, [], ◌∷◌, ◌++◌, map, length, take, set, refl, sym, ap, ◌∙◌, arith, subst, append-nil, append_assoc, length-append}
use Rattle.std.specs.List.{concat}
use Rattle.std.proofs.lemmas.List.{map-append, take_more_set}
use Rattle.bitpack_slices.proofs.ForCallers.{join}
use Rattle.bitpack_slices.specs.Bodies.{parts}
use Rattle.bitpack_slices.specs.Follows.{Follow}
use Rattle.bitpack_sets.specs.Sets.{body}
use Rattle.bitpack_queries.specs.Gathered.{IsGathered}

abbrev bodies_of : List (ℕ × List ℕ) → List ℕ
bodies_of ps = concat (map (λ chunk. body chunk.1) ps)

-- what is told of these chunks, and their bodies are written if there is room
pub record AreTold (ps : List (ℕ × List ℕ)) (keys counts sizes bytes : List ℕ) (count chunks size : ℕ) : Type 0 where
  pub count_is : count ≡ length (join 65536 ps)
  pub chunks_are : chunks ≡ length ps
  pub keys_are : take chunks keys ≡ map (λ chunk. chunk.0) ps
  pub counts_are : take chunks counts ≡ map (λ chunk. length chunk.1) ps
  pub sizes_are : take chunks sizes ≡ map (λ chunk. length (body chunk.1)) ps
  pub size_is : size ≡ length (concat (map (λ chunk. body chunk.1) ps))
  pub bodies_are : size ≤ length bytes → take size bytes ≡ concat (map (λ chunk. body chunk.1) ps)

told_none : (keys counts sizes bytes : List ℕ) → AreTold [] keys counts sizes bytes 0 0 0
told_none keys counts sizes bytes = record { count_is = refl; chunks_are = refl; keys_are = refl; counts_are = refl; sizes_are = refl; size_is = refl; bodies_are = λ room. refl }

pub told_start : (keys counts sizes bytes : List ℕ) (count chunks size : ℕ) → count ≡ 0 → chunks ≡ 0 → size ≡ 0 → AreTold [] keys counts sizes bytes count chunks size
told_start keys counts sizes bytes count chunks size a b d = rw (a, b, d) (told_none keys counts sizes bytes)

concat-append : (xs ys : List (List ℕ)) → concat (xs ++ ys) ≡ concat xs ++ concat ys
concat-append [] ys = refl
concat-append (x ∷ xs) ys = ap (λ (l : List ℕ). x ++ l) (concat-append xs ys) ∙ sym (append_assoc x (concat xs) (concat ys))

told_more : (f : ℕ × List ℕ → ℕ) (n x : ℕ) (told : List ℕ) (ps : List (ℕ × List ℕ)) (chunk : ℕ × List ℕ) → n < length told → x ≡ f chunk → take n told ≡ map f ps
    → take (n + 1) (set told n x) ≡ map f (ps ++ chunk ∷ [])
told_more f n x told ps chunk room is so = take_more_set told n x room ∙ (λ i. so i ++ is i ∷ []) ∙ sym (map-append f ps (chunk ∷ []))

bodies_more : (ps : List (ℕ × List ℕ)) (chunk : ℕ × List ℕ) → bodies_of (ps ++ chunk ∷ []) ≡ bodies_of ps ++ body chunk.1
bodies_more ps chunk =
    ap concat (map-append (λ part. body part.1) ps (chunk ∷ [])) ∙ concat-append (map (λ part. body part.1) ps) (body chunk.1 ∷ [])
    ∙ ap (λ (l : List ℕ). bodies_of ps ++ l) (append-nil (body chunk.1))

module _ (ps : List (ℕ × List ℕ)) (keys counts sizes old new : List ℕ) (count chunks size key len own : ℕ) (numbers : List ℕ)
    (so : AreTold ps keys counts sizes old count chunks size) where
  pub told_next : (all : List (ℕ × List ℕ)) → all ≡ ps ++ (key, numbers) ∷ [] → length (join 65536 all) ≡ count + own → own ≡ length numbers
      → chunks < length keys → chunks < length counts → chunks < length sizes → len ≡ length (body numbers) → Follow (body numbers) old new size (size + len) → length new ≡ length old
      → AreTold all (set keys chunks key) (set counts chunks own) (set sizes chunks len) new (count + own) (chunks + 1) (size + len)
  told_next all are counted own_is a b d sized follow same =
      let chunk : ℕ × List ℕ = (key, numbers) in
      let before = so.size_is in
      let told = so.chunks_are in
      let long = length-append ps (chunk ∷ []) in
      let more = ap length (bodies_more ps chunk) ∙ length-append (bodies_of ps) (body numbers) in
      let there : AreTold (ps ++ chunk ∷ []) (set keys chunks key) (set counts chunks own) (set sizes chunks len) new (count + own) (chunks + 1) (size + len) = record {
        count_is = sym (ap (λ (l : List (ℕ × List ℕ)). length (join 65536 l)) (sym are) ∙ counted);
        chunks_are = omega arith;
        keys_are = told_more (λ part. part.0) chunks key keys ps chunk a refl so.keys_are;
        counts_are = told_more (λ part. length part.1) chunks own counts ps chunk b own_is so.counts_are;
        sizes_are = told_more (λ part. length (body part.1)) chunks len sizes ps chunk d sized so.sizes_are;
        size_is = omega arith;
        bodies_are = λ room. follow.written room ∙ ap (λ (l : List ℕ). l ++ body numbers) (so.bodies_are (omega arith)) ∙ sym (bodies_more ps chunk);
      } in
      subst (λ (l : List (ℕ × List ℕ)). AreTold l (set keys chunks key) (set counts chunks own) (set sizes chunks len) new (count + own) (chunks + 1) (size + len)) (sym are) there

  -- as a chunk that has ids is added
  pub told_added : (all : List (ℕ × List ℕ)) (keys' counts' sizes' : List ℕ) (count' chunks' size' : ℕ) → all ≡ ps ++ (key, numbers) ∷ [] → length (join 65536 all) ≡ count + own
      → own ≡ length numbers → 0 < own → chunks < length keys → chunks < length counts → chunks < length sizes → len ≡ length (body numbers) → Follow (body numbers) old new size (size + len)
      → length new ≡ length old → count' ≡ count + own → size' ≡ size + len → (0 < own → chunks' ≡ chunks + 1) → (0 < own → keys' ≡ set keys chunks key)
      → (0 < own → counts' ≡ set counts chunks own) → (0 < own → sizes' ≡ set sizes chunks len) → AreTold all keys' counts' sizes' new count' chunks' size'
  told_added all keys' counts' sizes' count' chunks' size' are counted own_is some a b d sized follow same count_is size_is chunks_is x y z =
      rw (count_is, size_is, chunks_is some, x some, y some, z some) (told_next all are counted own_is a b d sized follow same)

-- they are the chunks of ids
pub told_all : (ids keys counts sizes bytes : List ℕ) (ps : List (ℕ × List ℕ)) (count chunks size : ℕ) → ids ≡ join 65536 ps → parts (2 ^ 16) ids ≡ ps
    → AreTold ps keys counts sizes bytes count chunks size → IsGathered ids keys counts sizes bytes count chunks size
told_all ids keys counts sizes bytes ps count chunks size is are so = record {
  count_is = so.count_is ∙ sym (ap length is);
  chunks_are = so.chunks_are ∙ sym (ap length are);
  keys_are = so.keys_are ∙ sym (ap (map (λ chunk. chunk.0)) are);
  counts_are = so.counts_are ∙ sym (ap (map (λ chunk. length chunk.1)) are);
  sizes_are = so.sizes_are ∙ sym (ap (map (λ chunk. length (body chunk.1))) are);
  size_is = so.size_is ∙ sym (ap (λ (l : List (ℕ × List ℕ)). length (concat (map (λ chunk. body chunk.1) l))) are);
  bodies_are = λ room. so.bodies_are room ∙ sym (ap (λ (l : List (ℕ × List ℕ)). concat (map (λ chunk. body chunk.1) l)) are);
}
