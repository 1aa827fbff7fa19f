use Rattle.std.proofs.Common.{ℕ, List, Option, sym, ap, ◌∙◌, subst, arith}
use Rattle.std.proofs.lemmas.List.{with_items_is}
use Rattle.std.proofs.lemmas.Result.{err_from_is_err_and}
use lib.Seq.{sets}
use Rattle.grid.specs.Shapes.{sides}
use Rattle.volume.specs.declared.files.FileHeader.{FileHeader}
use Rattle.volume.specs.Files.{file_refusal, file_sides, density_samples, label_samples, density_level, label_level, Held}
use Rattle.volume.specs.Kinds.{density_inside, density_crossing, density_stored, label_inside, label_crossing, label_stored}
use Rattle.extract.proofs.Reading.{too_long, refused_file, density_page, label_page, density_fits, label_fits, same_field, length_density, length_label, answered, missing}
use Rattle.extract.proofs.files.page_of_file.Goals as goal

pub returns-then-input-gt-LONGEST : goal.returns-then-input-gt-LONGEST
returns-then-input-gt-LONGEST c = too_long c.args.input.now c.if-input-gt-LONGEST.true

pub returns-in_err-shape : goal.returns-in_err-shape
returns-in_err-shape c =
    let b = c.args.input.now in
    let d = c.deref_mut.ensures.len ∙ c.in_ok-densities.ensures.len in
    let l = c.deref_mut-2.ensures.len ∙ c.in_ok-labels.ensures.len in
    let p = err_from_is_err_and c.from_residual-in_err-shape.result c.from_residual-in_err-shape.ensures.1 in
    rw (p.1, p.2)
    (refused_file b c.in_err-shape.field-0.0 c.if-input-gt-LONGEST.false (sym (λ i. file_refusal b (d i) (l i)) ∙ c.in_err-shape.ensures.0))

pub returns-in-Densities : goal.returns-in-Densities
returns-in-Densities c =
    let b = c.args.input.now in
    let d = c.deref_mut.ensures.len ∙ c.in_ok-densities.ensures.len in
    let l = c.deref_mut-2.ensures.len ∙ c.in_ok-labels.ensures.len in
    let none = sym (λ i. file_refusal b (d i) (l i)) ∙ c.in_ok-shape.ensures.0 in
    let held = subst (λ (h : FileHeader). Held h b c.deref_mut.result.now c.read_file.new.densities c.deref_mut-2.result.now c.read_file.new.labels) c.in-Densities.is c.in_ok-shape.ensures.1 in
    let fits = density_fits b 1024 1024 none held.0 in
    let blank = c.deref_mut.ensures.value ∙ c.in_ok-densities.ensures.items_if_clones_equal (missing _ (λ x h. h)) in
    let entries = c.deref.ensures.value ∙ with_items_is c.in_ok-densities.densities c.read_file.new.densities (c.read_file.auto.densities ∙ c.deref_mut.ensures.len) ∙ held.3 ∙ ap (λ (t : List (Option ℕ)). sets t 0 (density_samples b)) blank in
    answered c.page_of_table.result _ _
    (density_page b _ c.if-input-gt-LONGEST.false none held.0
    (same_field density_inside density_crossing density_stored c.in-Densities.level (density_level b) (sides c.in-Densities.shape) (file_sides b) 1024 (density_samples b) c.deref.result.now
    held.2 held.1 entries (let n = length_density b in omega arith)))
    c.page_of_table.ensures

pub returns : goal.returns
returns c =
    let b = c.args.input.now in
    let d = c.deref_mut.ensures.len ∙ c.in_ok-densities.ensures.len in
    let l = c.deref_mut-2.ensures.len ∙ c.in_ok-labels.ensures.len in
    let none = sym (λ i. file_refusal b (d i) (l i)) ∙ c.in_ok-shape.ensures.0 in
    let held = subst (λ (h : FileHeader). Held h b c.deref_mut.result.now c.read_file.new.densities c.deref_mut-2.result.now c.read_file.new.labels) c.in-Labels.is c.in_ok-shape.ensures.1 in
    let fits = label_fits b 1024 1024 none held.0 in
    let blank = c.deref_mut-2.ensures.value ∙ c.in_ok-labels.ensures.items_if_clones_equal (missing _ (λ x h. h)) in
    let entries = c.deref-in-Labels.ensures.value ∙ with_items_is c.in_ok-labels.labels c.read_file.new.labels (c.read_file.auto.labels ∙ c.deref_mut-2.ensures.len) ∙ held.3 ∙ ap (λ (t : List (Option ℕ)). sets t 0 (label_samples b)) blank in
    answered c.page_of_table-in-Labels.result _ _
    (label_page b _ c.if-input-gt-LONGEST.false none held.0
    (same_field label_inside label_crossing label_stored c.in-Labels.level (label_level b) (sides c.in-Labels.shape) (file_sides b) 1024 (label_samples b) c.deref-in-Labels.result.now
    held.2 held.1 entries (let n = length_label b in omega arith)))
    c.page_of_table-in-Labels.ensures
