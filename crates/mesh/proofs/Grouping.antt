-- The vertices that stand for groups number the groups, and no two numbers count them. Assumes nothing.
use Rattle.std.proofs.Common.{◌≡◌, ℕ, suc, ◌+◌, ◌<◌, ◌≤◌, Bool, true, cond, List, [], ◌∷◌, length, sym, ap, ◌∙◌, add-zero, arith}
use Rattle.std.specs.Prelude.{◌==◌, count_by}
use Rattle.std.specs.List.{enumerate_from}
use Rattle.std.proofs.lemmas.Bool.{eqb-true, eq-eqb}
use Rattle.std.proofs.lemmas.List.Sums.{sum_by-cons}
use Rattle.grid.specs.declared.geometry.Triangle.{Triangle}
use Rattle.mesh.specs.declared.verdicts.VertexRecord.{VertexRecord}
use Rattle.mesh.specs.Counting.{count}
use Rattle.mesh.specs.Parts.{Groups, OnePartCount}
use Rattle.mesh.specs.Forests.{parent_of, roots, Forest, Settled, labels, fixes}
use Rattle.mesh.proofs.Counting.{at_most, count_none, count_front, count_like, count_strict, count_one, count_onto}
use Rattle.mesh.proofs.Labels.{settled_none, labels_settled, labels_same, labels_joined}

-- the records that are their own parents, one after another, the first of them under the number `m`
roots_from : (m : ℕ) (ps : List VertexRecord) (p : ℕ → Bool) → ((x : ℕ) → x < length ps → p x ≡ (parent_of ps x == m + x))
    → count_by (λ (q : ℕ × VertexRecord). q.1.parent == q.0) (enumerate_from m ps) ≡ count p (length ps)
roots_from m [] p like = sym (count_none p)
roots_from m (r ∷ ps) p like =
    let first : p 0 ≡ (r.parent == m) = like 0 (omega arith) ∙ ap (λ (n : ℕ). r.parent == n) (add-zero m) in
    let rest = roots_from (m + 1) ps (λ x. p (suc x))
    (λ x h. let n : m + suc x ≡ m + 1 + x = omega arith in like (suc x) (omega arith) ∙ ap (λ (k : ℕ). parent_of ps x == k) n) in
    let whole : count p (length (r ∷ ps)) ≡ cond (p 0) 1 0 + count (λ x. p (suc x)) (length ps) = count_front p (length ps) in
    let more : count_by (λ (q : ℕ × VertexRecord). q.1.parent == q.0) (enumerate_from m (r ∷ ps))
    ≡ cond (r.parent == m) 1 0 + count_by (λ (q : ℕ × VertexRecord). q.1.parent == q.0) (enumerate_from (m + 1) ps) =
    sum_by-cons (λ (q : ℕ × VertexRecord). cond (q.1.parent == q.0) 1 0) (m, r) (enumerate_from (m + 1) ps) in
    omega (arith, ap (λ (b : Bool). cond {A = ℕ} b 1 0) first)

roots_count : (ps : List VertexRecord) → roots ps ≡ count (fixes (parent_of ps)) (length ps)
roots_count ps = roots_from 0 ps (fixes (parent_of ps)) (λ x h. let n : x ≡ 0 + x = omega arith in ap (λ (k : ℕ). parent_of ps x == k) n)

-- the pointers' roots are the vertices that stand for groups
parent_roots : (f : ℕ → ℕ) (ps : List VertexRecord) → Settled f → Forest f ps → count (fixes (parent_of ps)) (length ps) ≡ count (fixes f) (length ps)
parent_roots f ps s F =
    count_like (fixes (parent_of ps)) (fixes f) (length ps)
    (λ x h e. eq-eqb (f x) x (F.root x h (eqb-true (parent_of ps x) x e)))
    (λ x h e. eq-eqb (parent_of ps x) x (omega (arith, eqb-true (f x) x e, F.same x h, F.low x h, s.low (parent_of ps x))))

pub groups : (ts : List (Triangle ℕ)) (ps : List VertexRecord) (n : ℕ) → Forest (labels (λ x. x) ts) ps → n ≡ roots ps → Groups ts (length ps) n
groups ts ps n F e =
    let f : ℕ → ℕ = labels (λ x. x) ts in
    let s : Settled f = labels_settled (λ x. x) ts settled_none in
    let all : n ≡ count (fixes f) (length ps) = e ∙ roots_count ps ∙ parent_roots f ps s F in
    let stands : (v : ℕ) → fixes f (f v) ≡ true = λ v. eq-eqb (f (f v)) (f v) (s.again v) in
    record {
      number = λ v. count (fixes f) (f v);
      below = λ v h. omega (arith, all, count_strict (fixes f) (f v) (length ps) (stands v) (omega (arith, s.low v)));
      onto = λ i h. let r = count_onto (fixes f) i (length ps) (omega (arith, all)) in (r.0, r.1, ap (count (fixes f)) (eqb-true (f r.0) r.0 r.2) ∙ r.3);
      same = λ u v a b j. ap (count (fixes f)) (labels_same (λ x. x) ts j);
      joined = λ u v a b h. labels_joined ts u v (count_one (fixes f) (f u) (f v) (stands u) (stands v) h);
    }

no_more : (ts : List (Triangle ℕ)) (vertices m n : ℕ) → Groups ts vertices m → Groups ts vertices n → m ≤ n
no_more ts vertices m n G H =
    at_most m n
    (λ i h. H.number (G.onto i h).0)
    (λ i h. H.below (G.onto i h).0 (G.onto i h).1)
    (λ i j h k e.
    let u = G.onto i h in
    let v = G.onto j k in
    sym u.2 ∙ G.same u.0 v.0 u.1 v.1 (H.joined u.0 v.0 u.1 v.1 e) ∙ v.2)

pub one_part_count : OnePartCount
one_part_count ts vertices m n G H = omega (arith, no_more ts vertices m n G H, no_more ts vertices n m H G)
