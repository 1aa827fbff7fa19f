-- The tetrahedra that hold one grid edge, the ring round it, and the computed test.
use Rattle.std.proofs.Common.{ℕ, zero, suc, ◌-◌, Bool, true, false, ◌||◌, T, eqb, ltb, List, [], ◌∷◌, ◌++◌, map, length, get_or}
use Rattle.grid.specs.declared.geometry.GridEdge.{GridEdge}
use Rattle.grid.specs.declared.geometry.Point.{Point}
use Rattle.grid.specs.declared.geometry.Triangle.{Triangle}
use Rattle.grid.specs.Points.{◌⊕◌, offset, top, crossed}
use Rattle.grid.specs.Cases.{low_position}
use Rattle.grid.specs.Cells.{corner, vertex, edge, mask, placed, tet_triangles}
use Rattle.topology.specs.Sides.{start, end, rest, none}
use Rattle.topology.proofs.Finite.{◌and◌, all, all_b, imp, some}
use Rattle.topology.proofs.Moved.{zeros, ◌⊖◌, eq_point, eq_edge}
use Rattle.topology.proofs.Keys.{from, gather, each, key_open}

-- a tetrahedron
pub record Tet : Type 0 where
  pub base : Point
  pub tet : ℕ

unfoldable pub no_tet : Tet
no_tet = record { base = record { x = 0; y = 0; z = 0 }; tet = 0 }

-- the grid edge of direction d from the least point that leaves room for the tetrahedra round it
unfoldable pub near : ℕ → GridEdge
near d = record { low = offset (7 - d); direction = d }

-- the tetrahedra that hold it
unfoldable pub seats : ℕ → List Tet
seats d = gather 6 λ t. gather 4 λ m. gather 4 λ n.
    elim (ltb m n and eqb (corner t n - corner t m) d) [
      | true ↦ record { base = offset (7 - d) ⊖ offset (corner t m); tet = t } ∷ []
      | false ↦ []
    ]

unfoldable pub member : Point → List Point → Bool
member p [] = false
member p (q ∷ qs) = eq_point q p || member p qs

unfoldable pub insert : List Point → List Point → List Point
insert [] l = l
insert (p ∷ ps) l = insert ps (elim (member p l) [ true ↦ l | false ↦ l ++ (p ∷ []) ])

-- the ends, and all corners of those tetrahedra
unfoldable pub star : ℕ → List Point
star d = insert (gather (length (seats d)) λ k. let s = get_or (seats d) k no_tet in gather 4 λ m. vertex s.base s.tet m ∷ [])
    ((near d).low ∷ top (near d) ∷ [])

-- the values of the points
unfoldable pub pattern : List Point → List Bool → Point → Bool
pattern [] bs p = false
pattern (q ∷ qs) [] p = false
pattern (q ∷ qs) (b ∷ bs) p = elim (eq_point q p) [ true ↦ b | false ↦ pattern qs bs p ]

-- the triangles of the tetrahedra
unfoldable pub meshes : List Tet → (Point → Bool) → List (List (Triangle GridEdge))
meshes ss inside = map (λ (s : Tet). tet_triangles inside s.base s.tet) ss

-- side `turn` of triangle `tri` of the tetrahedron number `seat`
pub record Post : Type 0 where
  pub seat : ℕ
  pub tri : ℕ
  pub turn : ℕ

unfoldable pub leaves : List (List (Triangle GridEdge)) → Post → GridEdge
leaves ts p = start p.turn (get_or (get_or ts p.seat []) p.tri none)

unfoldable pub meets : List (List (Triangle GridEdge)) → Post → GridEdge
meets ts p = end p.turn (get_or (get_or ts p.seat []) p.tri none)

unfoldable pub thirds : List (List (Triangle GridEdge)) → Post → GridEdge
thirds ts p = rest p.turn (get_or (get_or ts p.seat []) p.tri none)

unfoldable pub size : List (List (Triangle GridEdge)) → ℕ → ℕ
size ts k = length (get_or ts k [])

unfoldable pub same_post : Post → Post → Bool
same_post p q = eqb p.seat q.seat and (eqb p.tri q.tri and eqb p.turn q.turn)

-- all places with the source v, then the ring, found by going on; nothing is proved of these but what the tests say
unfoldable pub around : List (List (Triangle GridEdge)) → GridEdge → List Post
around ts v = gather (length ts) λ k. gather (size ts k) λ i. gather 3 λ j.
    let p : Post = record { seat = k; tri = i; turn = j } in
    elim (eq_edge (leaves ts p) v) [ true ↦ p ∷ [] | false ↦ [] ]

unfoldable pub first : List Post → Post
first [] = record { seat = 0; tri = 9; turn = 0 }
first (p ∷ ps) = p

unfoldable pub next : List (List (Triangle GridEdge)) → List Post → GridEdge → Post
next ts [] e = first []
next ts (p ∷ ps) e = elim (eq_edge (meets ts p) e) [ true ↦ p | false ↦ next ts ps e ]

unfoldable pub others : ℕ → List (List (Triangle GridEdge)) → List Post → Post → List Post
others zero ts ps p = []
others (suc n) ts ps p =
    let q = next ts ps (thirds ts p) in
    elim (same_post q (first ps)) [ true ↦ [] | false ↦ q ∷ others n ts ps q ]

unfoldable pub good : List (List (Triangle GridEdge)) → GridEdge → Post → Bool
good ts v p = ltb p.seat (length ts) and (ltb p.tri (size ts p.seat) and (ltb p.turn 3 and eq_edge (leaves ts p) v))

unfoldable pub steps : List (List (Triangle GridEdge)) → Post → Post → Bool
steps ts p q = eq_edge (meets ts q) (thirds ts p)

-- from p over the list and on to z
unfoldable pub chain : List (List (Triangle GridEdge)) → GridEdge → Post → List Post → Post → Bool
chain ts v p [] z = good ts v p and steps ts p z
chain ts v p (q ∷ qs) z = good ts v p and (steps ts p q and chain ts v q qs z)

unfoldable pub listed : Post → List Post → Bool
listed p [] = false
listed p (q ∷ qs) = same_post q p || listed p qs

-- the list has all places with the source v
unfoldable pub complete : List (List (Triangle GridEdge)) → GridEdge → List Post → Bool
complete ts v ps = all (length ts) λ k. all (size ts k) λ i. all 3 λ j.
    imp (eq_edge (leaves ts (record { seat = k; tri = i; turn = j })) v) λ _. listed (record { seat = k; tri = i; turn = j }) ps

unfoldable pub closes : List (List (Triangle GridEdge)) → GridEdge → Post → List Post → Bool
closes ts v p ps = chain ts v p ps p and complete ts v (p ∷ ps)

unfoldable pub ring_by : List (List (Triangle GridEdge)) → GridEdge → List Post → Bool
ring_by ts v ps = closes ts v (first ps) (others 12 ts ps (first ps))

unfoldable pub ring : List (List (Triangle GridEdge)) → GridEdge → Bool
ring ts v = ring_by ts v (around ts v)

-- a test at all lists of n Booleans
abbrev pub all_bits : ℕ → (List Bool → Bool) → Bool
all_bits zero f = f []
all_bits (suc n) f = all_b λ b. all_bits n λ bs. f (b ∷ bs)

unfoldable pub rings : List Tet → List Point → GridEdge → Bool
rings ss ps v = all_bits (length ps) λ bs. imp (crossed (pattern ps bs) v) λ _. ring (meshes ss (pattern ps bs)) v

unfoldable pub check_rings : ℕ → Bool
check_rings d = imp (ltb 0 d) λ _. rings (seats d) (star d) (near d)

-- the star has the ends and all corners
unfoldable pub check_star : ℕ → Bool
check_star d = imp (ltb 0 d) λ _. member (near d).low (star d) and (member (top (near d)) (star d) and all (length (seats d)) λ k.
    ltb (get_or (seats d) k no_tet).tet 6 and all 4 λ m. member (vertex (get_or (seats d) k no_tet).base (get_or (seats d) k no_tet).tet m) (star d))

-- a side runs from a grid edge that its tetrahedron holds
unfoldable pub check_seated : ℕ → ℕ → ℕ → ℕ → Bool
check_seated t w i j =
    let p = from t w i j in
    let d = (edge zeros t p).direction in
    some (length (seats d)) λ k. eqb (get_or (seats d) k no_tet).tet t and eq_point ((get_or (seats d) k no_tet).base ⊕ offset (corner t (low_position p))) (offset (7 - d))

unfoldable pub star_open : ℕ
unfolding key_open ◌⊖◌ rest none mask placed tet_triangles no_tet near seats member insert star pattern meshes leaves meets thirds size around same_post first next others good steps chain listed complete closes ring_by ring crossed rings
star_open = 0

pub fact_rings : T (all 8 check_rings)
unfolding star_open check_rings
fact_rings = tt

pub fact_star : T (all 8 check_star)
unfolding star_open check_star
fact_star = tt

pub fact_seated : T (each check_seated)
unfolding star_open check_seated
fact_seated = tt
