-- A mesh whose crossed edges are all reached from one of them, triangle by triangle, is one part. Assumes nothing.
use Rattle.std.proofs.Common.{◌≡◌, ℕ, zero, suc, ◌<◌, ◌≤◌, Bool, true, cond, ◌||◌, T, ◌⊎◌, List, [], ◌∷◌, length, get_or, sym, refl, ap, ◌∙◌, subst, inl, inr, ⊎_elim, arith}
use Rattle.std.proofs.lemmas.List.{get_or_default}
use Rattle.std.proofs.lemmas.Bool.{cond_both}
use Rattle.grid.specs.declared.geometry.GridEdge.{GridEdge}
use Rattle.grid.specs.declared.geometry.Triangle.{Triangle}
use Rattle.grid.specs.Points.{crossed}
use Rattle.grid.specs.Cells.{cell_count}
use Rattle.mesh.specs.Parts.{Joined, stay, step, Groups}
use Rattle.mesh.specs.Surfaces.{Surface as Closed-surface}
use Rattle.mesh.specs.Triangles.{triangle_at, Corner, Runs}
use Rattle.mesh.proofs.Labels.{walk_on, walk_back}
use Rattle.topology.specs.Sides.{none, Padded}
use Rattle.topology.proofs.Finite.{◌and◌, all, all_at, left, right, or_cases}
use Rattle.topology.proofs.Members.{In, in_has, has_in, all_l, all_l_at, any_l, any_l_at}
use Rattle.topology.proofs.Moved.{eq_edge, edge_eq}
use Rattle.surface.specs.Marches.{State, Field}
use Rattle.surface.specs.Skins.{vertex_count, vertex_at, mesh, Carries, tiles, Lies, VerticesKept, TrianglesKept, AllMarched}
use Rattle.surface.proofs.Closing.{all_carried}

-- an edge is in the list
abbrev pub listed : List GridEdge → GridEdge → Bool
listed es e = any_l (eq_edge e) es

listed_in : (es : List GridEdge) (e : GridEdge) → T (listed es e) → In e es
listed_in es e h = let r = any_l_at (eq_edge e) es h in subst (λ (x : GridEdge). In x es) (sym (edge_eq e r.0 r.2)) r.1

-- a corner of a triangle is listed; and all are
abbrev pub touched : List GridEdge → Triangle GridEdge → Bool
touched es τ = listed es τ.a || (listed es τ.b || listed es τ.c)

unfoldable pub covered : List GridEdge → Triangle GridEdge → Bool
covered es τ = listed es τ.a and (listed es τ.b and listed es τ.c)

-- the list with the corners of the triangles that it touches, one after the other; of all cells; and so again some times
unfoldable pub spread : List (Triangle GridEdge) → List GridEdge → List GridEdge
spread [] es = es
spread (τ ∷ τs) es = spread τs (cond (covered es τ) es (cond (touched es τ) (τ.a ∷ τ.b ∷ τ.c ∷ es) es))

unfoldable pub sweep : Field → ℕ → List GridEdge → List GridEdge
sweep f zero es = es
sweep f (suc c) es = spread (tiles f c) (sweep f c es)

unfoldable pub sweeps : Field → ℕ → List GridEdge → List GridEdge
sweeps f zero es = es
sweeps f (suc n) es = sweeps f n (sweep f (cell_count f.sides) es)

-- after so many sweeps from the edge `hub` all corners of triangles are listed
unfoldable pub connected : Field → GridEdge → ℕ → Bool
connected f hub n = all (cell_count f.sides) (λ c. all_l (covered (sweeps f n (hub ∷ []))) (tiles f c))

unfoldable pub parts_open : ℕ
unfolding eq_edge covered spread sweep sweeps connected
parts_open = 0

-- an edge that carries a corner
abbrev Of : Triangle GridEdge → GridEdge → Type 0
Of τ e = (e ≡ τ.a) ⊎ ((e ≡ τ.b) ⊎ (e ≡ τ.c))

-- two corners of a triangle are one, or the ends of a side
near : (t : Triangle ℕ) (u v : ℕ) → Corner t u → Corner t v → (u ≡ v) ⊎ (Runs t u v ⊎ Runs t v u)
near t u v (inl p) (inl q) = inl (p ∙ sym q)
near t u v (inl p) (inr (inl q)) = inr (inl (inl (p, q)))
near t u v (inl p) (inr (inr q)) = inr (inr (inr (inr (q, p))))
near t u v (inr (inl p)) (inl q) = inr (inr (inl (q, p)))
near t u v (inr (inl p)) (inr (inl q)) = inl (p ∙ sym q)
near t u v (inr (inl p)) (inr (inr q)) = inr (inl (inr (inl (p, q))))
near t u v (inr (inr p)) (inl q) = inr (inl (inr (inr (p, q))))
near t u v (inr (inr p)) (inr (inl q)) = inr (inr (inr (inl (q, p))))
near t u v (inr (inr p)) (inr (inr q)) = inl (p ∙ sym q)

linked : (ts : List (Triangle ℕ)) (n u v : ℕ) → n < length ts → Corner (triangle_at ts n) u → Corner (triangle_at ts n) v → Joined ts u v
linked ts n u v h p q =
    ⊎_elim
    (λ e. subst (λ (w : ℕ). Joined ts u w) e stay)
    (λ r. step (record { at = n; within = h; runs = r }) stay)
    (near (triangle_at ts n) u v p q)

module _ (f : Field) (s : State) (vk : VerticesKept f s) (tk : TrianglesKept f s) (full : AllMarched f s) (hub : GridEdge) where
  -- a triangle of the mesh lies on these three edges
  record Laid (τ : Triangle GridEdge) : Type 0 where
    at : ℕ
    within : at < length (mesh s)
    lies : Lies s (triangle_at (mesh s) at) τ

  laid : (c : ℕ) → c < cell_count f.sides → (τ : Triangle GridEdge) → In τ (tiles f c) → Laid τ
  laid c h τ i =
      let k = in_has (tiles f c) τ i in
      let n = tk.laid c k.0 (full c h) k.1 in
      record { at = n.0; within = n.1.within; lies = subst (Lies s (triangle_at (mesh s) n.0)) (k.2 none) n.1.lies }

  record Held (τ : Triangle GridEdge) (l : Laid τ) (e : GridEdge) : Type 0 where
    number : ℕ
    carries : Carries s number e
    corner : Corner (triangle_at (mesh s) l.at) number

  held : (τ : Triangle GridEdge) (l : Laid τ) (e : GridEdge) → Of τ e → Held τ l e
  held τ l e (inl p) = record { number = _; carries = subst (Carries s _) (sym p) l.lies.a; corner = inl refl }
  held τ l e (inr (inl p)) = record { number = _; carries = subst (Carries s _) (sym p) l.lies.b; corner = inr (inl refl) }
  held τ l e (inr (inr p)) = record { number = _; carries = subst (Carries s _) (sym p) l.lies.c; corner = inr (inr refl) }

  -- a walk leads from the vertex on e to the one on the hub
  abbrev Reached : GridEdge → Type 0
  Reached e = (u w : ℕ) → Carries s u e → Carries s w hub → Joined (mesh s) u w

  abbrev AllReached : List GridEdge → Type 0
  AllReached es = (e : GridEdge) → In e es → Reached e

  across : (τ : Triangle GridEdge) → Laid τ → (d e : GridEdge) → Of τ d → Of τ e → Reached d → Reached e
  across τ l d e p q r u w cu cw =
      let x = held τ l d p in
      let y = held τ l e q in
      let same : y.number ≡ u = vk.single e y.number u y.carries cu in
      walk_on (subst (λ (k : ℕ). Joined (mesh s) k x.number) same (linked (mesh s) l.at y.number x.number l.within y.corner x.corner))
      (r x.number w x.carries cw)

  more : (es : List GridEdge) (τ : Triangle GridEdge) → Laid τ → AllReached es → T (touched es τ) → AllReached (τ.a ∷ τ.b ∷ τ.c ∷ es)
  more es τ l all t =
      let from : (d : GridEdge) → Of τ d → In d es → AllReached (τ.a ∷ τ.b ∷ τ.c ∷ es) = λ d p i e h.
      ⊎_elim (λ q. across τ l d e p (inl (sym q)) (all d i))
      (λ h. ⊎_elim (λ q. across τ l d e p (inr (inl (sym q))) (all d i))
      (λ h. ⊎_elim (λ q. across τ l d e p (inr (inr (sym q))) (all d i)) (λ h. all e h) h) h) h in
      ⊎_elim (λ k. from τ.a (inl refl) (listed_in es τ.a k))
      (λ k. ⊎_elim (λ k. from τ.b (inr (inl refl)) (listed_in es τ.b k)) (λ k. from τ.c (inr (inr refl)) (listed_in es τ.c k))
      (or_cases (listed es τ.b) (listed es τ.c) k))
      (or_cases (listed es τ.a) (listed es τ.b || listed es τ.c) t)

  spread_reached : (τs : List (Triangle GridEdge)) → ((τ : Triangle GridEdge) → In τ τs → Laid τ) → (es : List GridEdge) → AllReached es → AllReached (spread τs es)
  unfolding spread
  spread_reached [] l es all = all
  spread_reached (τ ∷ τs) l es all =
      spread_reached τs (λ σ i. l σ (inr i)) _
      (cond_both (covered es τ) es (cond (touched es τ) (τ.a ∷ τ.b ∷ τ.c ∷ es) es) AllReached (λ e. all)
      (λ e. cond_both (touched es τ) (τ.a ∷ τ.b ∷ τ.c ∷ es) es AllReached (λ t. more es τ (l τ (inl refl)) all (subst T (sym t) tt)) (λ t. all)))

  sweep_reached : (c : ℕ) → c ≤ cell_count f.sides → (es : List GridEdge) → AllReached es → AllReached (sweep f c es)
  unfolding sweep
  sweep_reached zero h es all = all
  sweep_reached (suc c) h es all = spread_reached (tiles f c) (laid c (omega arith)) (sweep f c es) (sweep_reached c (omega arith) es all)

  sweeps_reached : (n : ℕ) (es : List GridEdge) → AllReached es → AllReached (sweeps f n es)
  unfolding sweeps
  sweeps_reached zero es all = all
  sweeps_reached (suc n) es all = sweeps_reached n (sweep f (cell_count f.sides) es) (sweep_reached (cell_count f.sides) (omega arith) es all)

  start_reached : AllReached (hub ∷ [])
  start_reached e (inl p) u w cu cw = subst (λ (k : ℕ). Joined (mesh s) u k) (vk.single hub u w (subst (Carries s u) (sym p) cu) cw) stay
  start_reached e (inr p) u w cu cw = absurd p

  -- the edge of a vertex is a corner of a triangle of some cell, and so is listed
  vertex_listed : (n : ℕ) → T (connected f hub n) → Closed-surface (vertex_count s) (mesh s) → (v : ℕ) → v < vertex_count s → In (vertex_at s v).edge (sweeps f n (hub ∷ []))
  unfolding connected covered
  vertex_listed n t closed v h =
      let a = closed.covered v h in
      let b = tk.tile a.0 a.1.within in
      let c = b.0 in
      let k = b.1.0 in
      let tile = b.1.1 in
      let es = sweeps f n (hub ∷ []) in
      let τ = get_or (tiles f c) k none in
      let i : In τ (tiles f c) = has_in (tiles f c) τ (k, tile.rank, λ d. get_or_default (tiles f c) k d none tile.rank) in
      let g = all_l_at (covered es) (tiles f c) (all_at (cell_count f.sides) (λ c. all_l (covered es) (tiles f c)) t c tile.marched.cell) τ i in
      let la = left (listed es τ.a) (listed es τ.b and listed es τ.c) g in
      let r = right (listed es τ.a) (listed es τ.b and listed es τ.c) g in
      let lb = left (listed es τ.b) (listed es τ.c) r in
      let lc = right (listed es τ.b) (listed es τ.c) r in
      let put : (u : ℕ) (e : GridEdge) → v ≡ u → Carries s u e → T (listed es e) → In (vertex_at s v).edge es =
      λ u e p q l. subst (λ (x : GridEdge). In x es) (sym (ap (λ (w : ℕ). (vertex_at s w).edge) p ∙ q.edge)) (listed_in es e l) in
      ⊎_elim (λ p. put _ τ.a p tile.lies.a la)
      (λ o. ⊎_elim (λ p. put _ τ.b p tile.lies.b lb) (λ p. put _ τ.c p tile.lies.c lc) o)
      a.1.corner

  pub one_part : Padded f.sides f.inside → Closed-surface (vertex_count s) (mesh s) → 0 < hub.direction → hub.direction < 8 → crossed f.inside hub ≡ true
      → (n : ℕ) → T (connected f hub n) → Groups (mesh s) (vertex_count s) 1
  one_part pad closed some few cross n t =
      let w = all_carried f s pad vk tk full hub some few cross in
      let b = w.1.within in
      let to : (u : ℕ) → u < vertex_count s → Joined (mesh s) u w.0 = λ u h.
      sweeps_reached n (hub ∷ []) start_reached (vertex_at s u).edge (vertex_listed n t closed u h) u w.0 (record { within = h; edge = refl }) w.1 in
      record {
        number = λ v. 0;
        below = λ v h. omega arith;
        onto = λ i h. (w.0, b, omega arith);
        same = λ u v h k j. refl;
        joined = λ u v h k e. walk_on (to u h) (walk_back (to v k));
      }

-- where there is no vertex, there is no part
pub no_part : (ts : List (Triangle ℕ)) (n : ℕ) → n ≡ 0 → Groups ts n 0
no_part ts n e = record {
  number = λ v. 0;
  below = λ v h. absurd (omega arith);
  onto = λ i h. absurd (omega arith);
  same = λ u v h k j. refl;
  joined = λ u v h k j. absurd (omega arith);
}
