-- What a write to one parent pointer leaves. Assumes nothing.
use Rattle.std.proofs.Common.{◌≡◌, ℕ, ◌<◌, ◌≤◌, ◌⊎◌, inl, inr, List, length, min, max, set, sym, refl, ap, ◌∙◌, subst, ⊎_elim, arith, length-set}
use Rattle.std.proofs.lemmas.List.{get_or-set_same, get_or-set_other}
use Rattle.std.proofs.lemmas.Bool.{cases_eq, cases_lt}
use Rattle.std.proofs.lemmas.Bool.Decides.{nat_tests}
use Rattle.mesh.specs.declared.verdicts.VertexRecord.{VertexRecord}
use Rattle.mesh.specs.VertexNotes.{no_record}
use Rattle.mesh.specs.Forests.{parent_of, Forest, Settled, link, merge}

pub parent_same : (ps : List VertexRecord) (i : ℕ) (r : VertexRecord) → i < length ps → parent_of (set ps i r) i ≡ r.parent
parent_same ps i r h = ap (λ (p : VertexRecord). p.parent) (get_or-set_same ps i r no_record h)

pub parent_other : (ps : List VertexRecord) (i : ℕ) (r : VertexRecord) (x : ℕ) → (x ≡ i → ⊥) → parent_of (set ps i r) x ≡ parent_of ps x
parent_other ps i r x d = ap (λ (p : VertexRecord). p.parent) (get_or-set_other ps i x r no_record d)

-- A write that keeps what each vertex stands for, up to `h`.
pub forest_set : (f h : ℕ → ℕ) (ps : List VertexRecord) (i : ℕ) (r : VertexRecord) → i < length ps → r.parent ≤ i
    → h (f r.parent) ≡ h (f i) → (r.parent ≡ i → h (f i) ≡ i) → ((x : ℕ) → (x ≡ i → ⊥) → f x ≡ x → h x ≡ x)
    → Forest f ps → Forest (λ y. h (f y)) (set ps i r)
forest_set f h ps i r b le same root rest F =
    let at = parent_same ps i r b in
    let within : (x : ℕ) → x < length (set ps i r) → x < length ps = λ x c. omega (arith, length-set ps i r) in
    record {
      low = λ x c. ⊎_elim
          (λ s. subst (λ (y : ℕ). parent_of (set ps i r) y ≤ y) (sym s) (omega arith))
          (λ d. omega (arith, parent_other ps i r x d, F.low x (within x c)))
          (cases_eq x i);
      same = λ x c. ⊎_elim
          (λ s. subst (λ (y : ℕ). h (f (parent_of (set ps i r) y)) ≡ h (f y)) (sym s) (ap (λ (y : ℕ). h (f y)) at ∙ same))
          (λ d. ap (λ (y : ℕ). h (f y)) (parent_other ps i r x d) ∙ ap h (F.same x (within x c)))
          (cases_eq x i);
      root = λ x c e. ⊎_elim
          (λ s. let w : r.parent ≡ i = sym at ∙ subst (λ (y : ℕ). parent_of (set ps i r) y ≡ y) s e in
          subst (λ (y : ℕ). h (f y) ≡ y) (sym s) (root w))
          (λ d. let w : f x ≡ x = F.root x (within x c) (sym (parent_other ps i r x d) ∙ e) in ap h w ∙ rest x d w)
          (cases_eq x i);
    }

-- the parent's parent in place of the parent
pub halved : (f : ℕ → ℕ) (ps : List VertexRecord) (i : ℕ) (r : VertexRecord) → i < length ps → r.parent ≡ parent_of ps (parent_of ps i)
    → Forest f ps → Forest f (set ps i r)
halved f ps i r b e F =
    let low = F.low i b in
    let b2 : parent_of ps i < length ps = omega arith in
    let low2 = F.low (parent_of ps i) b2 in
    forest_set f (λ y. y) ps i r b (omega arith)
    (ap f e ∙ F.same (parent_of ps i) b2 ∙ F.same i b)
    (λ s. F.root i b (omega arith))
    (λ x d w. refl)
    F

pub link_both : (p q : ℕ) → link p q p ≡ link p q q
link_both p q = grind (arith, nat_tests)

link_ends : (p q : ℕ) → link p q (min p q) ≡ link p q (max p q)
link_ends p q = grind (arith, nat_tests)

pub link_low : (p q y : ℕ) → link p q y ≤ y
link_low p q y = grind (arith, nat_tests)

-- the smaller of two in place of the parent of the larger, which stand for the groups of two vertices
pub joined : (f : ℕ → ℕ) (ps : List VertexRecord) (u v p q i : ℕ) (r : VertexRecord) → p ≡ f u → q ≡ f v → i ≡ max p q → i < length ps → r.parent ≡ min p q
    → Settled f → Forest f ps → Forest (merge f u v) (set ps i r)
joined f ps u v p q i r eu ev ei b e s F =
    let stands : (m : ℕ) → (m ≡ p) ⊎ (m ≡ q) → f m ≡ m =
    λ m o. ⊎_elim (λ w. ap f (w ∙ eu) ∙ s.again u ∙ sym (w ∙ eu)) (λ w. ap f (w ∙ ev) ∙ s.again v ∙ sym (w ∙ ev)) o in
    let low : f r.parent ≡ r.parent = stands r.parent (⊎_elim (λ h. inl (omega arith)) (λ h. inr (omega arith)) (cases_lt p q)) in
    let high : f i ≡ i = stands i (⊎_elim (λ h. inr (omega arith)) (λ h. inl (omega arith)) (cases_lt p q)) in
    subst (λ (m : ℕ). Forest (λ y. link (f u) m (f y)) (set ps i r)) ev
    (subst (λ (n : ℕ). Forest (λ y. link n q (f y)) (set ps i r)) eu
    (forest_set f (link p q) ps i r b (omega arith)
    (ap (link p q) (low ∙ e) ∙ link_ends p q ∙ ap (link p q) (sym (high ∙ ei)))
    (λ w. ap (link p q) high ∙ grind (arith, nat_tests))
    (λ x d w. grind (arith, nat_tests))
    F))
