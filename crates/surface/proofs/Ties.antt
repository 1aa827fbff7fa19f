-- An edge that gets the next vertex: what the map then holds, and that it stays tied to the vertex records. Assumes nothing.
use Rattle.std.proofs.Common.{◌≡◌, ℕ, ◌+◌, ◌<◌, true, ◌≢◌, ◌⊎◌, List, length, get_or, set, is_some, Some, None, Option, sym, ap, ◌∙◌, subst, inl, inr, ⊎_elim, arith, length-set, get_or-set_other, get_or-set_same}
use Rattle.std.proofs.lemmas.Bool.{cases_Bool, cases_eq, true≢false}
use Rattle.grid.specs.declared.geometry.GridEdge.{GridEdge}
use Rattle.grid.specs.EdgeKeys.{edge_meaning, edge_hash, vertex_on, with_vertex}
use Rattle.keymap.specs.declared.table.Entry.{Entry}
use Rattle.keymap.specs.Probe.{alike, slot, Sound}
use Rattle.keymap.specs.Law.{Maps}
use Rattle.keymap.specs.Frees.{free}
use Rattle.keymap.proofs.Frees.{slot_free, free_new, length_put}
use Rattle.keymap.proofs.Laws.{alike_same, alike_true, put_maps}
use Rattle.mesh.specs.declared.records.Coordinates.{Coordinates}
use Rattle.mesh.specs.declared.records.Vertex.{Vertex}
use Rattle.surface.specs.Rooms.{room_left}
use Rattle.surface.specs.States.{Numbering, numbering, named, named_by}
use Rattle.surface.specs.Ties.{Tied}

-- an edge is told by what it stands for
pub edge_told : (e f : GridEdge) → edge_meaning e ≡ edge_meaning f → e ≡ f
edge_told e f h =
    let x : e.low.x ≡ f.low.x = cc in
    let y : e.low.y ≡ f.low.y = cc in
    let z : e.low.z ≡ f.low.z = cc in
    let d : e.direction ≡ f.direction = cc in
    (λ i. record { low = record { x = x i; y = y i; z = z i }; direction = d i })

-- two edges are the same, or they are not
pub same_edge : (e f : GridEdge) → (e ≡ f) ⊎ (e ≢ f)
same_edge e f =
    ⊎_elim
    (λ t. inl (edge_told e f (alike_true (edge_meaning e) (edge_meaning f) t)))
    (λ t. inr (λ p. true≢false (sym (subst (λ (g : GridEdge). alike (edge_meaning e) (edge_meaning g) ≡ true) p (alike_same (edge_meaning e))) ∙ t)))
    (cases_Bool (alike (edge_meaning e) (edge_meaning f)))

some_some : (o : Option ℕ) (k n : ℕ) → o ≡ Some k → o ≡ Some n → k ≡ n
some_some o k n p q = cc

pub none_some : (o : Option ℕ) (k : ℕ) → o ≡ None → o ≡ Some k → ⊥
none_some o k p q = let z : ◌≡◌ {A = ℕ} 0 1 = cc in omega arith

module _ (es : List (Option (Entry GridEdge))) (sound : Sound edge_meaning edge_hash es) (e : GridEdge) (n : ℕ) (bare : vertex_on es e ≡ None) (room : 0 < free es) where
  maps : Maps edge_meaning edge_hash es (with_vertex es e n) e n
  unfolding with_vertex
  maps = put_maps edge_meaning edge_hash es e n sound

  found : is_some (slot edge_meaning edge_hash es (edge_meaning e)) ≡ true
  found = slot_free edge_meaning edge_hash es (edge_meaning e) room

  pub held_now : vertex_on (with_vertex es e n) e ≡ Some n
  unfolding vertex_on with_vertex
  held_now = maps.here found

  pub others_kept : (x : GridEdge) → x ≢ e → vertex_on (with_vertex es e n) x ≡ vertex_on es x
  unfolding vertex_on with_vertex
  others_kept x d = maps.others (edge_meaning x) (λ h. d (edge_told x e h))

  pub one_taken : free es ≡ free (with_vertex es e n) + 1
  unfolding vertex_on with_vertex
  one_taken = free_new edge_meaning edge_hash es e n bare found

  pub long_kept : length (with_vertex es e n) ≡ length es
  unfolding with_vertex
  long_kept = length_put es (slot edge_meaning edge_hash es (edge_meaning e)) e n

  pub sound_now : Sound edge_meaning edge_hash (with_vertex es e n)
  sound_now = maps.sound

module _ (place : GridEdge → Coordinates) (s : Numbering) (e : GridEdge) where
  -- an edge that has a vertex changes nothing
  pub named_kept : (k : ℕ) → vertex_on s.entries e ≡ Some k → named place s e ≡ s
  unfolding named
  named_kept k h = ap (λ (o : Option ℕ). named_by place o s e) h

  -- one that has none gets the next
  pub named_next : vertex_on s.entries e ≡ None → named place s e ≡ numbering (with_vertex s.entries e s.count) (set s.vertices s.count (record { edge = e; at = place e })) (s.count + 1)
  unfolding named
  named_next h = ap (λ (o : Option ℕ). named_by place o s e) h

  module _ (tied : Tied s) (bare : vertex_on s.entries e ≡ None) (room : 0 < free s.entries) (left : 0 < room_left (length s.vertices) s.count) where
    now_e : vertex_on (with_vertex s.entries e s.count) e ≡ Some s.count
    now_e = held_now s.entries tied.sound e s.count bare room

    kept : (x : GridEdge) → x ≢ e → vertex_on (with_vertex s.entries e s.count) x ≡ vertex_on s.entries x
    kept = others_kept s.entries tied.sound e s.count bare room

    below_length : s.count < length s.vertices
    below_length = omega arith

    -- the tie holds again
    pub tied_next : Tied (numbering (with_vertex s.entries e s.count) (set s.vertices s.count (record { edge = e; at = place e })) (s.count + 1))
    tied_next = record {
      within = (let l = length-set s.vertices s.count (record { edge = e; at = place e }) in let b = below_length in omega arith);
      used = (let f = one_taken s.entries tied.sound e s.count bare room in let l = long_kept s.entries tied.sound e s.count bare room in let u = tied.used in omega arith);
      sound = sound_now s.entries tied.sound e s.count bare room;
      below = λ x k h. ⊎_elim
          (λ p. let q = some_some _ k s.count (ap (vertex_on (with_vertex s.entries e s.count)) (sym p) ∙ h) now_e in omega arith)
          (λ d. let q = tied.below x k (sym (kept x d) ∙ h) in omega arith)
          (same_edge x e);
      keyed = λ x k d h. ⊎_elim
          (λ p. let q : k ≡ s.count = some_some _ k s.count (ap (vertex_on (with_vertex s.entries e s.count)) (sym p) ∙ h) now_e in
          ap (λ (m : ℕ). (get_or (set s.vertices s.count (record { edge = e; at = place e })) m d).edge) q
          ∙ ap (λ (w : Vertex). w.edge) (get_or-set_same s.vertices s.count (record { edge = e; at = place e }) d below_length) ∙ sym p)
          (λ a. let o = sym (kept x a) ∙ h in
          let b = tied.below x k o in
          let ne : k ≢ s.count = (λ q. omega arith) in
          ap (λ (w : Vertex). w.edge) (get_or-set_other s.vertices s.count k (record { edge = e; at = place e }) d ne) ∙ tied.keyed x k d o)
          (same_edge x e);
      held = λ k d h. ⊎_elim
          (λ q. ap (λ (m : ℕ). vertex_on (with_vertex s.entries e s.count) (get_or (set s.vertices s.count (record { edge = e; at = place e })) m d).edge) q
          ∙ ap (λ (w : Vertex). vertex_on (with_vertex s.entries e s.count) w.edge) (get_or-set_same s.vertices s.count (record { edge = e; at = place e }) d below_length)
          ∙ now_e ∙ ap Some (sym q))
          (λ ne. let b : k < s.count = omega arith in
          let o = tied.held k d b in
          let a : (get_or s.vertices k d).edge ≢ e = (λ p. none_some _ k bare (sym (ap (vertex_on s.entries) p) ∙ o)) in
          ap (λ (w : Vertex). vertex_on (with_vertex s.entries e s.count) w.edge) (get_or-set_other s.vertices s.count k (record { edge = e; at = place e }) d ne)
          ∙ kept (get_or s.vertices k d).edge a ∙ o)
          (cases_eq k s.count);
    }
