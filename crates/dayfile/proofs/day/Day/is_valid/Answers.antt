use Rattle.std.proofs.Common.{◌≡◌, sym, ap, ◌∙◌, rules}
use borrow.Author.Tests.{tests}
use Rattle.std.specs.List.{list_all}
use Rattle.std.proofs.lemmas.Iterator.Search.{all_from_yields_List}
use Rattle.std.proofs.lemmas.Iterator.Consumers.{YieldsList-from_first}
use Rattle.dayfile.specs.Days.{day_lines}
use Rattle.dayfile.specs.Lent.{day_in, lines_left}
use Rattle.dayfile.proofs.Writing.{good, valid_so, valid_then}
use Rattle.dayfile.proofs.day.Day.is_valid.Goals as goal

pub returns-then-is_count : goal.returns-then-is_count
returns-then-is_count c =
    let all : c.all.result ≡ list_all good (day_lines (day_in c.args.self)) =
    all_from_yields_List good c.all.new.self _ c.all.result c.all.ensures.ran (YieldsList-from_first (λ l. l) lines_left (day_lines (day_in c.args.self)) (ap lines_left c.lines.ensures)) (λ x b q k. search (rules, tests)) in
    (λ yes. valid_so _ (sym all ∙ yes), λ valid. all ∙ valid_then _ valid)
