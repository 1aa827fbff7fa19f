-- Sides by tetrahedra: each is read off its row, and its directed edge tells which one it is.
use Rattle.std.proofs.Common.{◌≡◌, ℕ, zero, suc, ◌<◌, Bool, true, List, [], ◌∷◌, length, get_or, sym, refl, ap, ◌∙◌, subst, ap₂, inl, inr, arith}
use lib.ListN.{length-map}
use Rattle.std.proofs.lemmas.List.{get_or-map}
use Rattle.grid.specs.declared.geometry.GridEdge.{GridEdge}
use Rattle.grid.specs.declared.geometry.Point.{Point}
use Rattle.grid.specs.declared.geometry.Triangle.{Triangle}
use Rattle.grid.specs.declared.geometry.TetEdge.{TetEdge}
use Rattle.grid.specs.Points.{◌⊕◌, offset, top, crossed}
use Rattle.grid.specs.Cases.{low_position, high_position, no_case, row}
use Rattle.grid.specs.Cells.{corner, odd, vertex, edge, value, mask, placed, tet_triangles}
use Rattle.topology.specs.Sides.{start, end, none}
use Rattle.topology.proofs.Members.{In}
use Rattle.topology.proofs.Moved.{zeros, ⊕_cancel_right, crossing_zeros}
use Rattle.topology.proofs.Tables.{bit, low_below, mask_below, bit_mask, Spanned, Row, row_triangle}
use Rattle.topology.proofs.Crossed.{edge_top, crossed_from}
use Rattle.topology.proofs.Keys.{key, key_shift, from, to, code, One, one}

-- side `turn` of triangle `tri` of tetrahedron `tet` of the cell at `base`
pub record Place : Type 0 where
  pub base : Point
  pub tet : ℕ
  pub tri : ℕ
  pub turn : ℕ

pub record Stands (inside : Point → Bool) (s : Place) : Type 0 where
  pub tet : s.tet < 6
  pub tri : s.tri < length (tet_triangles inside s.base s.tet)
  pub turn : s.turn < 3

unfoldable pub its : (Point → Bool) → Place → Triangle GridEdge
its inside s = get_or (tet_triangles inside s.base s.tet) s.tri none

unfoldable pub begins : (Point → Bool) → Place → GridEdge
begins inside s = start s.turn (its inside s)

unfoldable pub ends : (Point → Bool) → Place → GridEdge
ends inside s = end s.turn (its inside s)

pub place_≡ : {s r : Place} → s.base ≡ r.base → s.tet ≡ r.tet → s.tri ≡ r.tri → s.turn ≡ r.turn → s ≡ r
place_≡ a b c d = λ i. record { base = a i; tet = b i; tri = c i; turn = d i }

start_placed : (B : Point) (t j : ℕ) (τ : Triangle TetEdge) → start j (placed B t τ) ≡ edge B t (start j τ)
unfolding start placed
start_placed B t zero τ = refl
start_placed B t (suc zero) τ = refl
start_placed B t (suc (suc j)) τ = refl

end_placed : (B : Point) (t j : ℕ) (τ : Triangle TetEdge) → end j (placed B t τ) ≡ edge B t (end j τ)
unfolding end placed
end_placed B t zero τ = refl
end_placed B t (suc zero) τ = refl
end_placed B t (suc (suc j)) τ = refl

pub in_get_d : {X : Type 0} (xs : List X) (i : ℕ) (d : X) → i < length xs → In (get_or xs i d) xs
in_get_d [] i d h = absurd (omega arith)
in_get_d (x ∷ xs) zero d h = inl refl
in_get_d (x ∷ xs) (suc i) d h = inr (in_get_d xs i d (omega arith))

row_start : (w j : ℕ) (τ : Triangle TetEdge) → Row w τ → Spanned w (start j τ)
unfolding start
row_start w zero τ r = r.a
row_start w (suc zero) τ r = r.b
row_start w (suc (suc j)) τ r = r.c

-- a side by what its tetrahedron's row says
module _ (inside : Point → Bool) (s : Place) (h : Stands inside s) where
  pub at_row : s.tri < length (row (odd s.tet) (mask inside s.base s.tet))
  unfolding tet_triangles
  at_row = subst (λ n. s.tri < n) (length-map (row (odd s.tet) (mask inside s.base s.tet)) (placed s.base s.tet)) h.tri

  pub begins_is : begins inside s ≡ edge s.base s.tet (from s.tet (mask inside s.base s.tet) s.tri s.turn)
  unfolding begins its tet_triangles from
  begins_is = ap (start s.turn) (get_or-map (placed s.base s.tet) (row (odd s.tet) (mask inside s.base s.tet)) s.tri no_case none at_row) ∙ start_placed s.base s.tet s.turn _

  pub ends_is : ends inside s ≡ edge s.base s.tet (to s.tet (mask inside s.base s.tet) s.tri s.turn)
  unfolding ends its tet_triangles to
  ends_is = ap (end s.turn) (get_or-map (placed s.base s.tet) (row (odd s.tet) (mask inside s.base s.tet)) s.tri no_case none at_row) ∙ end_placed s.base s.tet s.turn _

  its_row : Row (mask inside s.base s.tet) (get_or (row (odd s.tet) (mask inside s.base s.tet)) s.tri no_case)
  its_row =
      let l = row (odd s.tet) (mask inside s.base s.tet) in
      row_triangle (odd s.tet) (mask inside s.base s.tet) (mask_below inside s.base s.tet) (get_or l s.tri no_case) (in_get_d l s.tri no_case at_row)

  pub from_spans : Spanned (mask inside s.base s.tet) (from s.tet (mask inside s.base s.tet) s.tri s.turn)
  unfolding from
  from_spans = row_start (mask inside s.base s.tet) s.turn _ its_row

  pub begins_low : (begins inside s).low ≡ vertex s.base s.tet (low_position (from s.tet (mask inside s.base s.tet) s.tri s.turn))
  unfolding edge
  begins_low = ap (λ (e : GridEdge). e.low) begins_is

  pub begins_top : top (begins inside s) ≡ vertex s.base s.tet (high_position (from s.tet (mask inside s.base s.tet) s.tri s.turn))
  begins_top = ap top begins_is ∙ edge_top s.base s.tet _ h.tet

  pub begins_crossed : crossed inside (begins inside s) ≡ true
  begins_crossed = ap (crossed inside) begins_is ∙ crossed_from inside s.base s.tet _ h.tet from_spans

  pub its_one : One s.tet (mask inside s.base s.tet) s.tri s.turn
  its_one = one s.tet (mask inside s.base s.tet) s.tri s.turn h.tet (mask_below inside s.base s.tet) at_row h.turn

unfoldable pub keyed : (Point → Bool) → GridEdge → GridEdge → ℕ
keyed inside e f = key (value (inside e.low)) e f

keyed_is : (inside : Point → Bool) (B : Point) (t : ℕ) (p q : TetEdge) →
    keyed inside (edge B t p) (edge B t q) ≡ key (bit (mask inside B t) (low_position p)) (edge zeros t p) (edge zeros t q)
unfolding keyed edge
keyed_is inside B t p q =
    let l = low_position p in
    ap (λ b. key b (edge B t p) (edge B t q)) (sym (bit_mask inside B t l (low_below p)))
    ∙ ap₂ (key (bit (mask inside B t) l)) (crossing_zeros B t p) (crossing_zeros B t q)
    ∙ key_shift B (bit (mask inside B t) l) (edge zeros t p) (edge zeros t q)

side_code : (inside : Point → Bool) (s : Place) → Stands inside s →
    keyed inside (begins inside s) (ends inside s) ≡ code s.tet (mask inside s.base s.tet) s.tri s.turn
unfolding code
side_code inside s h = ap₂ (keyed inside) (begins_is inside s h) (ends_is inside s h) ∙ keyed_is inside s.base s.tet _ _

-- one side at most runs along a directed edge
pub unique_place : (inside : Point → Bool) (s r : Place) → Stands inside s → Stands inside r →
    begins inside s ≡ begins inside r → ends inside s ≡ ends inside r → s ≡ r
unfolding edge vertex
unique_place inside s r hs hr es et =
    let os = its_one inside s hs in
    let or = its_one inside r hr in
    let ks = side_code inside s hs in
    let kr = side_code inside r hr in
    let k : code s.tet (mask inside s.base s.tet) s.tri s.turn ≡ code r.tet (mask inside r.base r.tet) r.tri r.turn = cc in
    let tet : s.tet ≡ r.tet = cc in
    let low : corner s.tet (low_position (from s.tet (mask inside s.base s.tet) s.tri s.turn)) ≡ corner r.tet (low_position (from r.tet (mask inside r.base r.tet) r.tri r.turn)) = cc in
    let at = ap (λ (e : GridEdge). e.low) (sym (begins_is inside s hs) ∙ es ∙ begins_is inside r hr) in
    let base : s.base ≡ r.base = ⊕_cancel_right s.base r.base _ (at ∙ ap (λ c. r.base ⊕ offset c) (sym low)) in
    let tri : s.tri ≡ r.tri = cc in
    let turn : s.turn ≡ r.turn = cc in
    place_≡ base tet tri turn
