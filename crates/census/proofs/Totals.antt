-- Sums of what starts at the bases of cells are the numbers of a census. Assumes nothing.
use Rattle.std.proofs.Common.{◌≡◌, ℕ, ◌+◌, ◌*◌, ◌≤◌, Bool, false, T, List, ◌∷◌, map, sum_by, Option, sym, ap, ◌∙◌, subst, inl, inr, add-one, arith}
use Rattle.std.proofs.lemmas.Bool.{cases_Bool}
use Rattle.grid.specs.declared.geometry.Point.{Point}
use Rattle.grid.specs.Points.{Sides, sampled}
use Rattle.grid.specs.Cells.{cell_count, cell_base}
use Rattle.topology.specs.Sides.{Padded}
use Rattle.topology.specs.Census.{Σ, over_cells, full, count, triangle_codes}
use Rattle.topology.proofs.Sums.{points_cells, points_sum}
use Rattle.topology.proofs.Whole.{within}
use Rattle.volume.specs.Borders.{Bordered}
use Rattle.volume.specs.Insides.{answer_inside, inside_at}
use Rattle.census.specs.Counts.{Taken, Sum, Starting, starting, point_codes, edge_codes}
use Rattle.census.specs.declared.counts.Census.{Census}
use Rattle.census.proofs.Starts.{tails, none_start}

-- m simplices of these codes start at the first k bases, and 12 at most at each
abbrev pub SumTo : Sides → (Point → Bool) → List (List ℕ) → ℕ → ℕ → Type 0
SumTo n inside codes k m = (m ≡ Σ k (λ i. starting inside codes (cell_base n i))) × (m ≤ 12 * k)

-- the census of what starts at the first k bases
pub record Summed (n : Sides) (inside : Point → Bool) (k : ℕ) (c : Census) : Type 0 where
  pub points : SumTo n inside point_codes k c.points
  pub edges : SumTo n inside edge_codes k c.edges
  pub triangles : SumTo n inside triangle_codes k c.triangles
  pub tetrahedra : SumTo n inside Rattle.grid.specs.Cells.tetrahedra k c.tetrahedra

module _ (n : Sides) (inside : Point → Bool) where
  pub sum_more : (codes : List (List ℕ)) (k m s t : ℕ) (P : Point) → P ≡ cell_base n k → SumTo n inside codes k m → s ≡ starting inside codes P → s ≤ 12 → t ≡ m + s → SumTo n inside codes (k + 1) t
  sum_more codes k m s t P b h e l is =
      let f : ℕ → ℕ = λ i. starting inside codes (cell_base n i) in
      let here : starting inside codes P ≡ f k = ap (starting inside codes) b in
      let step : Σ (k + 1) f ≡ Σ k f + f k = ap (λ j. Σ j f) (add-one k) in
      (omega (arith, h.0), omega (arith, h.1))

  pub summed_more : (k : ℕ) (a b c : Census) (P : Point) → P ≡ cell_base n k → Summed n inside k a → Starting inside P b → Sum a b c → Summed n inside (k + 1) c
  summed_more k a b c P at h s is = record {
    points = sum_more point_codes k a.points b.points c.points P at h.points s.points s.few.0 is.points;
    edges = sum_more edge_codes k a.edges b.edges c.edges P at h.edges s.edges s.few.1 is.edges;
    triangles = sum_more triangle_codes k a.triangles b.triangles c.triangles P at h.triangles s.triangles s.few.2 is.triangles;
    tetrahedra = sum_more Rattle.grid.specs.Cells.tetrahedra k a.tetrahedra b.tetrahedra c.tetrahedra P at h.tetrahedra s.tetrahedra s.few.3 is.tetrahedra;
  }

  -- over all cells, with no border point inside
  pub sum_all : Padded n inside → (rests : List (List ℕ)) (k m : ℕ) → k ≡ cell_count n → SumTo n inside (map (λ t. 0 ∷ t) rests) k m → m ≡ sum_by (count n inside) (map (λ t. 0 ∷ t) rests)
  unfolding over_cells starting count full
  sum_all pad rests k m all h =
      let codes = map (λ t. 0 ∷ t) rests in
      let out : (P : Point) → (P.x ≤ n.nx → P.y ≤ n.ny → P.z ≤ n.nz → ⊥) → starting inside codes P ≡ 0 = λ P no.
      elim (cases_Bool (inside P)) [
        | inl t ↦ absurd (let w = within n P (pad P t) in no w.x_high w.y_high w.z_high)
        | inr e ↦ none_start inside P rests e
      ] in
      h.0 ∙ ap (λ j. Σ j (λ i. starting inside codes (cell_base n i))) all ∙ points_cells n (starting inside codes) out ∙ points_sum n (full inside) codes

  pub summed_all : Padded n inside → (k : ℕ) (c : Census) → k ≡ cell_count n → Summed n inside k c → Taken n inside c
  unfolding Rattle.grid.specs.Cells.tetrahedra
  summed_all pad k c all h =
      let points = sum_all pad (tails point_codes) k c.points all h.points in
      record {
        points = omega (arith, points);
        edges = sum_all pad (tails edge_codes) k c.edges all h.edges;
        triangles = sum_all pad (tails triangle_codes) k c.triangles all h.triangles;
        tetrahedra = sum_all pad (tails Rattle.grid.specs.Cells.tetrahedra) k c.tetrahedra all h.tetrahedra;
      }

-- a volume has no inside point on the border or beyond
pub padded : {K L : Type 0} (inside : K → L → Bool) (h : L) (n : Sides) (sample : Point → Option K) → Bordered n sample → Padded n (inside_at inside h sample)
padded inside h n sample b p t =
    elim (cases_Bool (sampled n p)) [
      | inl e ↦ e
      | inr e ↦ absurd (let z : T false = subst T (sym t ∙ ap (answer_inside inside h) (b p e)) tt in z)
    ]
