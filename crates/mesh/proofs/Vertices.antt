-- What the notes of the vertices and the table of directed edges say of bare and torn vertices. Assumes nothing.
use Rattle.std.proofs.Common.{◌≡◌, ℕ, ◌<◌, List, length, Some, None, Option, sym, ap, subst, arith}
use Rattle.grid.specs.declared.geometry.Triangle.{Triangle}
use Rattle.keymap.specs.declared.table.Entry.{Entry}
use Rattle.mesh.specs.declared.sides.DirectedEdge.{DirectedEdge}
use Rattle.mesh.specs.declared.names.NamedMesh.{NamedMesh}
use Rattle.mesh.specs.declared.rings.Survey.{Survey}
use Rattle.mesh.specs.declared.verdicts.VertexRecord.{VertexRecord}
use Rattle.mesh.specs.Rings.{OneRing, MoreRings}
use Rattle.mesh.specs.First.{Clear, First}
use Rattle.mesh.specs.Faults.{Doubled, Unpaired, Bare, Fault}
use Rattle.mesh.specs.EdgeTables.{Noted, Early}
use Rattle.mesh.specs.VertexNotes.{degree_at, neighbour_at, Surveyed}
use Rattle.mesh.proofs.Round.{Mesh}
use Rattle.mesh.proofs.Spokes.{early_more, late_one}
use Rattle.mesh.proofs.Judging.{clear_mesh, no_fault}
use Rattle.mesh.proofs.Tallies.{zero_bare, some_not_bare}

-- what is first for one rule is first for another that is broken at the same places
first_like : (P Q : ℕ → Type 0) (n : ℕ) → ((k : ℕ) → k < n → P k → Q k) → ((k : ℕ) → k < n → (P k → ⊥) → Q k → ⊥) → (o : Option ℕ) → First P n o → First Q n o
first_like P Q n to back None clear = λ k h. back k h (clear k h)
first_like P Q n to back (Some i) f = (f.0, to i f.0 f.1, λ k h. back k (omega (arith, f.0)) (f.2 k h))

-- a survey of a mesh, once the notes of all triangles are in
module _ {of : NamedMesh} (survey : Survey) (same : survey.mesh ≡ of) (s : Surveyed of.triangles.now (length of.triangles.now) survey.records.now) where
  abbrev ts : List (Triangle ℕ)
  ts = of.triangles.now

  abbrev ps : List VertexRecord
  ps = survey.records.now

  abbrev n : ℕ
  n = of.vertices

  abbrev m : ℕ
  m = survey.mesh.vertices

  same_vertices : m ≡ n
  same_vertices = ap (λ (k : NamedMesh). k.vertices) same

  some : (v : ℕ) → (degree_at ps v ≡ 0 → ⊥) → 0 < degree_at ps v
  some v d = omega arith

  pub first_bare : (o : Option ℕ) → First (λ v. degree_at ps v ≡ 0) m o → First (Bare ts) n o
  first_bare o f =
      subst (λ (k : ℕ). First (Bare ts) k o) same_vertices
      (first_like (λ v. degree_at ps v ≡ 0) (Bare ts) m
      (λ v h. zero_bare ts ps s v (omega arith))
      (λ v h d. some_not_bare ts ps s v (omega arith) (some v d))
      o f)

  module _ (mesh : Mesh ts) (es : List (Option (Entry DirectedEdge))) (noted : Noted ts (length ts) es) (cover : Clear (λ v. degree_at ps v ≡ 0) m) where
    abbrev Turns : ℕ → ℕ → Type 0
    Turns v d = Early es v (neighbour_at ps v) d

    early_torn : (v : ℕ) → v < m → Turns v (degree_at ps v) → MoreRings ts v
    early_torn v h e =
        early_more ts mesh es noted v (neighbour_at ps v) (s.firsts v (omega arith) (some v (cover v h)))
        (subst (λ (d : ℕ). Turns v d) (s.degrees v (omega arith)) e)

    late_whole : (v : ℕ) → v < m → (Turns v (degree_at ps v) → ⊥) → MoreRings ts v → ⊥
    late_whole v h late m =
        let one : OneRing ts v =
        late_one ts mesh es noted v (neighbour_at ps v) (s.firsts v (omega arith) (some v (cover v h)))
        (λ e. late (subst (λ (d : ℕ). Turns v d) (sym (s.degrees v (omega arith))) e)) in
        m.apart (one.leads m.from m.to m.from_at m.to_at)

    pub first_torn : (o : Option ℕ) → First (λ v. Early es v (neighbour_at ps v) (degree_at ps v)) m o → First (MoreRings ts) n o
    first_torn o f =
        subst (λ (k : ℕ). First (MoreRings ts) k o) same_vertices
        (first_like (λ v. Turns v (degree_at ps v)) (MoreRings ts) m early_torn late_whole o f)

  -- what each search that found nothing says together
  module _ (es : List (Option (Entry DirectedEdge))) (single : Clear (Doubled ts) (length ts)) (noted : Noted ts (length ts) es) (pairs : Clear (Unpaired ts) (length ts))
      (cover : Clear (λ v. degree_at ps v ≡ 0) m) (late : Clear (λ v. Early es v (neighbour_at ps v) (degree_at ps v)) m) where
    pub nothing : (m q : ℕ) → Fault n ts m q → ⊥
    nothing = no_fault n ts of.named single pairs (first_bare None cover) (first_torn (clear_mesh n ts of.named single pairs) es noted cover None late)
