use Rattle.std.proofs.Common.{sym, refl, ap, ◌∙◌, subst, rules}
use Rattle.std.specs.Iterator.Runs.{ItemsMapTo}
use Rattle.std.specs.Slice.Iter.{iter_rest}
use Rattle.lines.specs.Lines.{Parsed, as_form, first_line}
use Rattle.lines.proofs.Parsing.{first_parsed}
use Rattle.lines.proofs.Searching.{first_from_find_map}
use Rattle.lines.proofs.line.parse.Goals as goal

pub returns : goal.returns
returns c =
    let ran = c.find_map.ensures.runs in
    let items = subst (λ s. ItemsMapTo ran.0 (λ x. x.now) (iter_rest s)) ran.1 (c.iter.ensures.runs ran.0 ran.0.seen) in
    subst (Parsed c.args.text.now)
    (sym (first_from_find_map (λ f. as_form f c.args.text.now) (λ fs. first_line fs c.args.text.now) refl (λ f fs. refl) ran.0 _ _ (λ p. (p.0, p.1.now)) (λ a r q k. search rules) (λ x r k. search rules) (iter_rest c.iter.result) items c.find_map.result ran.2 ∙ ap (λ fs. first_line fs c.args.text.now) c.iter.ensures.rest))
    (first_parsed c.args.text.now)
