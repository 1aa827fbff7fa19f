-- One text written after another.
use Rattle.std.proofs.Common.{◌≡◌, ℕ, suc, ◌+◌, ◌-◌, ◌≤◌, min, List, [], ◌∷◌, ◌++◌, length, take, drop, set, sym, ap, ◌∙◌, append_assoc, add-zero, add-suc, suc-add, arith, length-drop}
use borrow.Rule.Slice.PartMut.{put_mid}
use lib.Seq.{sets, sets-eq}
use Rattle.std.proofs.lemmas.List.{drop-drop, drop-append-le, take-append-drop, length-take}

pub sets_append : {X : Type 0} (l : List X) (i : ℕ) (vs ws : List X) → sets l i (vs ++ ws) ≡ sets (sets l i vs) (i + length vs) ws
sets_append l i [] ws = ap (λ (n : ℕ). sets l n ws) (sym (add-zero i))
sets_append l i (v ∷ vs) ws =
    sets_append (set l i v) (suc i) vs ws
    ∙ ap (λ (n : ℕ). sets (sets (set l i v) (suc i) vs) n ws) (suc-add i (length vs) ∙ sym (add-suc i (length vs)))

-- what is written at the start of the part of k elements from `a` on is written into the whole
pub sets_part : {X : Type 0} (l : List X) (a k : ℕ) (vs : List X) → a + length vs ≤ length l → length vs ≤ k → put_mid a k l (sets (take k (drop a l)) 0 vs) ≡ sets l a vs
sets_part {X} l a k vs room small =
    let n : length (drop a l) ≡ length l - a = length-drop a l in
    let m : length (take k (drop a l)) ≡ min k (length (drop a l)) = length-take k (drop a l) in
    let past : drop (0 + length vs) (take k (drop a l)) ++ drop k (drop a l) ≡ drop (a + length vs) l =
    sym (drop-append-le (0 + length vs) (take k (drop a l)) (drop k (drop a l)) (omega arith))
    ∙ ap (drop (0 + length vs)) (take-append-drop k (drop a l))
    ∙ drop-drop (0 + length vs) a l
    ∙ ap (λ (i : ℕ). drop i l) (omega arith) in
    ap (λ (z : List X). take a l ++ (z ++ drop k (drop a l))) (sets-eq vs (take k (drop a l)) 0 (omega arith))
    ∙ ap (λ (z : List X). take a l ++ z) (append_assoc vs (drop (0 + length vs) (take k (drop a l))) (drop k (drop a l)))
    ∙ ap (λ (z : List X). take a l ++ (vs ++ z)) past
    ∙ sym (append_assoc (take a l) vs (drop (a + length vs) l))
    ∙ sym (sets-eq vs l a room)
