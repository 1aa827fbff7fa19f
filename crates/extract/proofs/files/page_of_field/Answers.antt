use Rattle.std.proofs.Common.{rules, ◌≡◌, ℕ, take, replicate, Ok, sym, ap, ◌∙◌}
use Rattle.std.proofs.lemmas.List.{with_items_is}
use Rattle.std.proofs.lemmas.Result.{err_from_is_err_and}
use Rattle.grid.specs.declared.geometry.Triangle.{Triangle}
use Rattle.mesh.specs.declared.records.Vertex.{Vertex}
use Rattle.extract.specs.Output.{no_vertex, no_triangle}
use Rattle.extract.proofs.Tables.{on_tables}
use Rattle.extract.proofs.files.page_of_field.Goals as goal

pub returns-in_err-length : goal.returns-in_err-length
returns-in_err-length g c =
    let v : c.default.result ≡ no_vertex = search rules in
    let t : c.default-2.result ≡ no_triangle = search rules in
    let p = err_from_is_err_and c.from_residual-in_err-length.result c.from_residual-in_err-length.ensures.1 in
    rw (p.1, p.2)
    (on_tables (g.F.Field.field c.args.field.now) _ _ _ _ _ _
    (c.deref_mut.ensures.len ∙ c.in_ok-marks.ensures.len)
    (c.deref_mut-2.ensures.len ∙ c.in_ok-entries.ensures.len)
    (c.deref_mut-3.ensures.value ∙ c.in_ok-vertices.ensures.items_if_clones_equal (λ y h. h) ∙ ap (λ (x : Vertex). replicate 2048 x) v)
    (c.deref_mut-4.ensures.value ∙ c.in_ok-triangles.ensures.items_if_clones_equal (λ y h. λ i. record { a = h.0 i; b = h.1.0 i; c = h.1.1 i }) ∙ ap (λ (x : Triangle ℕ). replicate 4096 x) t)
    (c.deref_mut-5.ensures.len ∙ c.in_ok-page.ensures.len)
    c.in_err-length.ensures)

pub returns : goal.returns
returns g c =
    let v : c.default.result ≡ no_vertex = search rules in
    let t : c.default-2.result ≡ no_triangle = search rules in
    on_tables (g.F.Field.field c.args.field.now) _ _ _ _ _ _
    (c.deref_mut.ensures.len ∙ c.in_ok-marks.ensures.len)
    (c.deref_mut-2.ensures.len ∙ c.in_ok-entries.ensures.len)
    (c.deref_mut-3.ensures.value ∙ c.in_ok-vertices.ensures.items_if_clones_equal (λ y h. h) ∙ ap (λ (x : Vertex). replicate 2048 x) v)
    (c.deref_mut-4.ensures.value ∙ c.in_ok-triangles.ensures.items_if_clones_equal (λ y h. λ i. record { a = h.0 i; b = h.1.0 i; c = h.1.1 i }) ∙ ap (λ (x : Triangle ℕ). replicate 4096 x) t)
    (c.deref_mut-5.ensures.len ∙ c.in_ok-page.ensures.len)
    (c.in_ok-length.ensures ∙ ap Ok (sym (c.truncate.ensures.items ∙ ap (take c.in_ok-length.length) (with_items_is c.in_ok-page.page c.extract_page.new.page (c.extract_page.auto.page ∙ c.deref_mut-5.ensures.len)))))
