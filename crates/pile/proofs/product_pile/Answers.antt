use Rattle.std.proofs.Common.{sym, ap, ◌∙◌, rules}
use Rattle.pile.proofs.Making.{demand_budget, serve_budget, travel_budget, the_figure}
use Rattle.pile.proofs.product_pile.Goals as goal

pub returns-in_err-demand : goal.returns-in_err-demand
returns-in_err-demand c = let told = sym (demand_budget _) ∙ c.in_err-demand.ensures in search rules

pub returns-in_err-serve : goal.returns-in_err-serve
returns-in_err-serve c =
    let demand = sym (demand_budget _) ∙ c.in_ok-demand.ensures.0 in
    let told = sym (serve_budget _) ∙ c.in_err-serve.ensures in
    search rules

pub returns-in_err-travel : goal.returns-in_err-travel
returns-in_err-travel c =
    let demand = sym (demand_budget _) ∙ c.in_ok-demand.ensures.0 in
    let serve = sym (serve_budget _) ∙ c.in_ok-serve.ensures.0 in
    let told = sym (travel_budget _) ∙ c.in_err-travel.ensures in
    search rules

pub returns : goal.returns
returns c =
    let time = c.in_ok-first.ensures in
    let load = c.in_ok-load.ensures in
    let duty = c.in_ok-duty.ensures in
    let demand = c.in_ok-demand.ensures in
    let serve = c.in_ok-serve.ensures in
    let travel = c.in_ok-travel.ensures in
    let few = sym (demand_budget _) ∙ demand.0 in
    let fewer = sym (serve_budget _) ∙ serve.0 in
    let fewest = sym (travel_budget _) ∙ travel.0 in
    let under = ap (λ l. l.below.below) travel.3 ∙ ap (λ l. l.below) serve.3 ∙ demand.3 in (
      search rules,
      record {
        travel = (travel.1, travel.2);
        serve = (ap (λ l. l.class) travel.3 ∙ serve.1, ap (λ l. l.budget) travel.3 ∙ serve.2);
        demand = (ap (λ l. l.below.class) travel.3 ∙ ap (λ l. l.class) serve.3 ∙ demand.1, ap (λ l. l.below.budget) travel.3 ∙ ap (λ l. l.budget) serve.3 ∙ demand.2);
        time = ap (λ p. p.first.beginning) under ∙ the_figure 100000 _ _ time;
        load = ap (λ p. p.second.first.capacity) under ∙ the_figure 10000 _ _ load;
        duty = ap (λ p. p.second.second.limit) under ∙ the_figure 100000 _ _ duty;
      },
    )
