use Rattle.std.proofs.Common.{◌≡◌, ◌<◌, List, [], ◌∷◌, ◌++◌, map, length, get_or, take, filter, sym, ap, ◌∙◌, arith}
use Rattle.std.proofs.lemmas.List.{take_all, length-take-le}
use Rattle.grid.specs.declared.geometry.Span.{Span}
use Rattle.grid.specs.Patterns.{spans, no_span, span_crossed, span_edge, flag, flag_edges}
use Rattle.grid.specs.Points.{differ}
use Rattle.grid.proofs.Patterns.{kept_yes, kept_no}
use Rattle.grid.proofs.cells.Cell.crossed_edges.Goals.{then-crosses, else-crosses}
use Rattle.grid.proofs.cells.Cell.crossed_edges.Goals as goal

pub loop-span-preserved : goal.loop-span-preserved
loop-span-preserved c =
    let i = c.loop-span.span-index in
    let h : i < 19 = c.loop-span-test.true in
    let flags = c.args.inside.now in
    let edge = span_edge c.args.self.base in
    let s = get_or spans i no_span in
    let inv = c.loop-span.invariant in
    let crossed : span_crossed flags s ≡ c.crosses.result =
    (λ j. differ (flag flags (sym c.from.ensures j)) (flag flags (sym c.from-in-loop-span.ensures j))) ∙ sym c.crosses.ensures in
    elim c.if-crosses.branch [
      | then-crosses w ↦
          let e : edge s ≡ record { low = w.corner.result; direction = s.direction } = (λ j. record { low = sym w.corner.ensures j; direction = s.direction }) in
          rw w.crossed-is (record {
            items =
                w.push.ensures.items
                ∙ (λ j. inv.items j ++ (sym e j ∷ []))
                ∙ sym (kept_yes (span_crossed flags) edge spans i no_span h (crossed ∙ w.if-crosses.true));
            few = omega arith;
            room = w.push.ensures.room ∙ inv.room;
          })
      | else-crosses w ↦
          rw w.crossed-is (record {
            items = inv.items ∙ sym (kept_no (span_crossed flags) edge spans i no_span h (crossed ∙ w.if-crosses.false));
            few = omega arith;
            room = inv.room;
          })
    ]

pub returns : goal.returns
unfolding flag_edges
returns c =
    let inv = c.loop-span.invariant in
    let crossed = c.loop-span.crossed in
    let value : take crossed.count crossed.items ≡ flag_edges c.args.inside.now c.args.self.base =
    inv.items ∙ ap (λ (xs : List Span). map (span_edge c.args.self.base) (filter (span_crossed c.args.inside.now) xs)) (take_all c.loop-span.span-index spans c.loop-span-test.false) in
    record { value = value; count = sym (length-take-le crossed.count crossed.items (omega arith)) ∙ ap length value; few = omega arith }
