-- The numbers of a file: a loop that writes them from the start of a table on, and where each stands among the bytes.
use Rattle.std.proofs.Common.{◌≡◌, ℕ, zero, suc, ◌+◌, ◌-◌, ◌*◌, ◌/◌, ◌<◌, ◌≤◌, List, [], ◌∷◌, ◌++◌, map, length, get_or, take, drop, set, Some, sym, refl, ap, ◌∙◌, add-zero, zero-add, mul-add, arith}
use lib.Seq.{sets}
use Rattle.std.specs.Simd.{first_chunks}
use Rattle.std.specs.List.{range_with_len}
use Rattle.std.proofs.Math.Nat.{mul-div_cancel_left}
use Rattle.std.proofs.lemmas.List.{map_more, length-map, length-take-le, length-drop, take_all, drop-drop}

sets_push : {X : Type 0} (l : List X) (i : ℕ) (vs : List X) (a : X) (j : ℕ) → i + length vs ≡ j → sets l i (vs ++ a ∷ []) ≡ set (sets l i vs) j a
sets_push l i [] a j e = ap (λ (k : ℕ). set l k a) (sym (add-zero i) ∙ e)
sets_push l i (v ∷ vs) a j e = sets_push (set l i v) (suc i) vs a j (omega arith)

-- the step of such a loop, which leaves the table t, and what f makes of x at place i
pub fill_more : {A X : Type 0} (f : A → X) (xs : List A) (l t : List X) (i : ℕ) (x : A) → i < length xs → get_or xs i x ≡ x → t ≡ sets l 0 (map f (take i xs)) → set t i (f x) ≡ sets l 0 (map f (take (i + 1) xs))
fill_more f xs l t i x h e before =
    let many : length (map f (take i xs)) ≡ i = length-map (take i xs) f ∙ length-take-le i xs (omega arith) in
    ap (λ (s : List _). set s i (f x)) before
    ∙ sym (sets_push l 0 (map f (take i xs)) (f x) i (zero-add _ ∙ many))
    ∙ ap (sets l 0) (ap (λ (y : _). map f (take i xs) ++ f y ∷ []) (sym e) ∙ sym (map_more f xs i x h))

-- the numbers of a file of the length due: the level's first, and then the samples'
pub numbers_cut : (w count : ℕ) (b : List ℕ) (cs : List (List ℕ)) → 1 ≤ w → length b ≡ 4 + w * (1 + count) → cs ≡ first_chunks w (length (take (length b - 4) (drop 4 b)) / w) (take (length b - 4) (drop 4 b)) → cs ≡ take w (drop 4 b) ∷ first_chunks w count (drop (4 + w) b)
numbers_cut w count b cs some long front =
    let whole : take (length b - 4) (drop 4 b) ≡ drop 4 b = take_all (length b - 4) (drop 4 b) (omega (arith, length-drop 4 b)) in
    let left : length (drop 4 b) ≡ w * (1 + count) = omega (arith, length-drop 4 b) in
    let more : 1 + count ≡ suc count = omega arith in
    let many : length (drop 4 b) / w ≡ suc count = ap (λ (n : ℕ). n / w) left ∙ mul-div_cancel_left (1 + count) some ∙ more in
    front
    ∙ ap (λ (t : List ℕ). first_chunks w (length t / w) t) whole
    ∙ ap (λ (k : ℕ). first_chunks w k (drop 4 b)) many
    ∙ ap (λ (t : List ℕ). take w (drop 4 b) ∷ first_chunks w count t) (drop-drop w 4 b)

-- what follows the first of such numbers
pub after_first : {A : Type 0} (cs ys : List A) (x : A) → cs ≡ x ∷ ys → take (length cs - 1) (drop 1 cs) ≡ ys
after_first cs ys x e =
    ap (λ (l : List _). take (length l - 1) (drop 1 l)) e ∙ take_all (length (x ∷ ys) - 1) ys (omega arith)

-- chunks of w bytes from place k on, as numbers that are read at their places
pub chunks_run : {X : Type 0} (number : List ℕ → ℕ → X) (w : ℕ) → ((b : List ℕ) (i : ℕ) → number (take w (drop i b)) 0 ≡ number b i) → (b : List ℕ) (n j k : ℕ) → k ≡ 4 + w * (1 + j) → map (λ c. Some (number c 0)) (first_chunks w n (drop k b)) ≡ map (λ i. Some (number b (4 + w * (1 + i)))) (range_with_len j n)
chunks_run number w own b zero j k e = refl
chunks_run number w own b (suc n) j k e =
    let next : k + w ≡ 4 + w * (1 + (j + 1)) = omega (arith, mul-add w (1 + j) 1) in
    let first = ap Some (own b k ∙ ap (number b) e) in
    let rest = ap (λ (t : List ℕ). map (λ c. Some (number c 0)) (first_chunks w n t)) (drop-drop w k b) ∙ chunks_run number w own b n (j + 1) (k + w) next in
    λ i. first i ∷ rest i

pub length-first_chunks : {X : Type 0} (n k : ℕ) (xs : List X) → length (first_chunks n k xs) ≡ k
length-first_chunks n zero xs = refl
length-first_chunks n (suc k) xs = ap suc (length-first_chunks n k (drop n xs))
