-- Labels that follow the triangles one by one are equal exactly where the vertices are joined. Assumes nothing.
use Rattle.std.proofs.Common.{◌≡◌, ℕ, zero, suc, ◌+◌, ◌<◌, ◌⊎◌, List, [], ◌∷◌, ◌++◌, length, take, sym, refl, ap, ◌∙◌, subst, inl, inr, ⊎_elim, arith}
use Rattle.std.proofs.lemmas.List.{take_more}
use Rattle.std.proofs.lemmas.Bool.Decides.{nat_tests}
use Rattle.grid.specs.declared.geometry.Triangle.{Triangle}
use Rattle.mesh.specs.Triangles.{no_triangle, triangle_at, Corner, Runs}
use Rattle.mesh.specs.MeshEdges.{MeshEdge}
use Rattle.mesh.specs.Parts.{Joined, stay, step}
use Rattle.mesh.specs.Forests.{Settled, link, merge, merge_corners, labels}

-- walks

pub walk_on : {ts : List (Triangle ℕ)} {u v w : ℕ} → Joined ts u v → Joined ts v w → Joined ts u w
walk_on stay k = k
walk_on (step e j) k = step e (walk_on j k)

pub edge_back : {ts : List (Triangle ℕ)} {u v : ℕ} → MeshEdge ts u v → MeshEdge ts v u
edge_back e = grind arith

pub walk_back : {ts : List (Triangle ℕ)} {u v : ℕ} → Joined ts u v → Joined ts v u
walk_back stay = stay
walk_back (step e j) = walk_on (walk_back j) (step (edge_back e) stay)

-- what is equal across each edge is equal along each walk
pub along : {ts : List (Triangle ℕ)} (f : ℕ → ℕ) → ((u v : ℕ) → MeshEdge ts u v → f u ≡ f v) → {u v : ℕ} → Joined ts u v → f u ≡ f v
along f h stay = refl
along f h (step e j) = h _ _ e ∙ along f h j

-- links

link_cases : (p q y : ℕ) → (link p q y ≡ y) ⊎ (((y ≡ p) × (link p q y ≡ q)) ⊎ ((y ≡ q) × (link p q y ≡ p)))
link_cases p q y = grind (arith, nat_tests)

link_again : (p q y : ℕ) → link p q (link p q y) ≡ link p q y
link_again p q y = grind (arith, nat_tests)

pub merge_settled : (f : ℕ → ℕ) (u v : ℕ) → Settled f → Settled (merge f u v)
merge_settled f u v s = grind arith

pub corners_settled : (f : ℕ → ℕ) (t : Triangle ℕ) → Settled f → Settled (merge_corners f t)
corners_settled f t s = merge_settled (merge f t.a t.b) t.b t.c (merge_settled f t.a t.b s)

pub labels_settled : (f : ℕ → ℕ) (ts : List (Triangle ℕ)) → Settled f → Settled (labels f ts)
unfolding labels
labels_settled f [] s = s
labels_settled f (t ∷ ts) s = labels_settled (merge_corners f t) ts (corners_settled f t s)

pub settled_none : Settled (λ (x : ℕ). x)
settled_none = grind arith

-- one triangle more

labels_push : (f : ℕ → ℕ) (ts : List (Triangle ℕ)) (t : Triangle ℕ) → labels f (ts ++ t ∷ []) ≡ merge_corners (labels f ts) t
unfolding labels
labels_push f [] t = refl
labels_push f (x ∷ ts) t = labels_push (merge_corners f x) ts t

pub labels_more : (f : ℕ → ℕ) (ts : List (Triangle ℕ)) (k : ℕ) → k < length ts → merge_corners (labels f (take k ts)) (triangle_at ts k) ≡ labels f (take (k + 1) ts)
labels_more f ts k h = sym (ap (labels f) (take_more ts k no_triangle h) ∙ labels_push f (take k ts) (triangle_at ts k))

-- joined vertices have one label

labels_keep : (f : ℕ → ℕ) (ts : List (Triangle ℕ)) (u v : ℕ) → f u ≡ f v → labels f ts u ≡ labels f ts v
unfolding labels
labels_keep f [] u v e = e
labels_keep f (t ∷ ts) u v e =
    labels_keep (merge_corners f t) ts u v
    (ap (λ (y : ℕ). link (merge f t.a t.b t.b) (merge f t.a t.b t.c) (link (f t.a) (f t.b) y)) e)

corner_same : (f : ℕ → ℕ) (t : Triangle ℕ) (v : ℕ) → Corner t v → merge_corners f t v ≡ merge_corners f t t.b
corner_same f t v c = grind arith

labels_corners : (f : ℕ → ℕ) (ts : List (Triangle ℕ)) (k u v : ℕ) → k < length ts → Corner (triangle_at ts k) u → Corner (triangle_at ts k) v → labels f ts u ≡ labels f ts v
unfolding labels
labels_corners f [] k u v h p q = absurd (omega arith)
labels_corners f (t ∷ ts) zero u v h p q = labels_keep (merge_corners f t) ts u v (corner_same f t u p ∙ sym (corner_same f t v q))
labels_corners f (t ∷ ts) (suc k) u v h p q = labels_corners (merge_corners f t) ts k u v (omega arith) p q

runs_ends : (t : Triangle ℕ) (u v : ℕ) → Runs t u v → Corner t u × Corner t v
runs_ends t u v r = grind arith

pub labels_same : (f : ℕ → ℕ) (ts : List (Triangle ℕ)) {u v : ℕ} → Joined ts u v → labels f ts u ≡ labels f ts v
labels_same f ts j =
    along (labels f ts) (λ u v e.
    let t = triangle_at ts e.at in
    let ends : Corner t u × Corner t v = ⊎_elim (λ r. runs_ends t u v r) (λ r. let x = runs_ends t v u r in (x.1, x.0)) e.runs in
    labels_corners f ts e.at u v e.within ends.0 ends.1) j

-- each vertex is joined to its label

module _ (all : List (Triangle ℕ)) where
  merge_reach : (f : ℕ → ℕ) (u v : ℕ) → Joined all u v → ((x : ℕ) → Joined all x (f x)) → (x : ℕ) → Joined all x (merge f u v x)
  merge_reach f u v j reach x =
      ⊎_elim
      (λ e. subst (λ (y : ℕ). Joined all x y) (sym e) (reach x))
      (λ o. ⊎_elim
      (λ e. subst (λ (y : ℕ). Joined all x y) (sym e.1)
      (walk_on (subst (λ (y : ℕ). Joined all x y) e.0 (reach x)) (walk_on (walk_back (reach u)) (walk_on j (reach v)))))
      (λ e. subst (λ (y : ℕ). Joined all x y) (sym e.1)
      (walk_on (subst (λ (y : ℕ). Joined all x y) e.0 (reach x)) (walk_on (walk_back (reach v)) (walk_on (walk_back j) (reach u)))))
      o)
      (link_cases (f u) (f v) (f x))

  corners_reach : (f : ℕ → ℕ) (t : Triangle ℕ) → Joined all t.a t.b → Joined all t.b t.c → ((x : ℕ) → Joined all x (f x)) → (x : ℕ) → Joined all x (merge_corners f t x)
  corners_reach f t ab bc reach = merge_reach (merge f t.a t.b) t.b t.c bc (merge_reach f t.a t.b ab reach)

  labels_reach : (f : ℕ → ℕ) (ts : List (Triangle ℕ)) → ((k u v : ℕ) → k < length ts → Runs (triangle_at ts k) u v → Joined all u v)
      → ((x : ℕ) → Joined all x (f x)) → (x : ℕ) → Joined all x (labels f ts x)
  unfolding labels
  labels_reach f [] edges reach = reach
  labels_reach f (t ∷ ts) edges reach =
      labels_reach (merge_corners f t) ts
      (λ k u v h. edges (suc k) u v (omega arith))
      (corners_reach f t (edges 0 t.a t.b (omega arith) (inl (refl, refl))) (edges 0 t.b t.c (omega arith) (inr (inl (refl, refl)))) reach)

  pub labels_joined : (u v : ℕ) → labels (λ x. x) all u ≡ labels (λ x. x) all v → Joined all u v
  labels_joined u v e =
      let reach : (x : ℕ) → Joined all x (labels (λ y. y) all x) =
      labels_reach (λ x. x) all (λ k a b h r. step (record { at = k; within = h; runs = inl r }) stay) (λ x. stay) in
      walk_on (subst (λ (y : ℕ). Joined all u y) e (reach u)) (walk_back (reach v))
