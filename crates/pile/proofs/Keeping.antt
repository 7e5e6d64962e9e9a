-- What the product's pile accepts, from its fields to the day's head. Assumes nothing.
use Rattle.std.proofs.Common.{◌≡◌, ℕ, ◌≤◌, ◌&&◌, List, [], ◌∷◌, ◌++◌, ◌∙◌}
use Rattle.records.specs.declared.Head.{Head}
use Rattle.records.specs.declared.step.Step.{Step}
use Rattle.resource.specs.Scenarios.{Accepts, Budget}
use Rattle.resource.specs.Days.{own_verdict}
use Rattle.resource.specs.Words.{sound}
use Rattle.time.specs.Hours.{hours, on_time}
use Rattle.load.specs.Carrying.{carrying, never_overloaded}
use Rattle.duty.specs.Driving.{driving, rests_in_time}
use Rattle.pair.specs.Sides.{pair_extension, pair_verdict}
use Rattle.layered.specs.Layered.{layered_width}
use Rattle.time.specs.Laws.{hours_lawful, hours_keep}
use Rattle.load.specs.Laws.{carrying_lawful}
use Rattle.load.specs.Room.{carrying_keeps}
use Rattle.duty.specs.Laws.{driving_lawful, driving_keeps}
use Rattle.pair.specs.Laws.{pair_lawful, pair_keeps}
use Rattle.pile.specs.Product.{Product, PileOf, keeps_all, product_layers, product_width}

-- what time beside load and duty accept
abbrev pub three_accept : ℕ → ℕ → ℕ → Accepts
three_accept beginning capacity limit =
    own_verdict (pair_verdict 1 sound (pair_verdict 2 sound sound)) (pair_extension 1 hours (pair_extension 2 (carrying capacity) (driving limit))) ((beginning ∷ []) ++ ((0 ∷ (0 ∷ [])) ++ (0 ∷ [])))

three_keep : (beginning capacity limit : ℕ) → beginning ≤ 100000 → capacity ≤ 10000 → limit ≤ 100000 → (ss : List Step) (ms : List ℕ) → three_accept beginning capacity limit ss ms ≡ (on_time beginning ss ms && (never_overloaded capacity ss ms && rests_in_time limit ss ms))
three_keep beginning capacity limit b c l ss ms =
    let load = carrying_lawful capacity c in
    let duty = driving_lawful limit l in
    let inner = pair_keeps load duty ss ms ∙ (λ i. carrying_keeps capacity c ss ms i && driving_keeps limit l ss ms i) in
    pair_keeps (hours_lawful beginning b) (pair_lawful load duty) ss ms ∙ (λ i. hours_keep beginning b ss ms i && inner i)

module _ (h : Head) (opens : ℕ) (p : Product) (is : PileOf h opens p) where
  pub accepts_all : three_accept p.below.below.below.first.beginning p.below.below.below.second.first.capacity p.below.below.below.second.second.limit ≡ keeps_all h opens
  accepts_all =
      (λ i ss ms. three_keep p.below.below.below.first.beginning p.below.below.below.second.first.capacity p.below.below.below.second.second.limit p.below.below.below.first.early p.below.below.below.second.first.bounded p.below.below.below.second.second.bounded ss ms i)
      ∙ (λ i ss ms. on_time (is.time i) ss ms && (never_overloaded (is.load i) ss ms && rests_in_time (is.duty i) ss ms))

  pub the_layers : ◌≡◌ {A = List Budget} (record { class = p.class; most = p.budget } ∷ record { class = p.below.class; most = p.below.budget } ∷ record { class = p.below.below.class; most = p.below.below.budget } ∷ []) (product_layers h)
  the_layers i =
      record { class = is.travel.0 i; most = is.travel.1 i } ∷ record { class = is.serve.0 i; most = is.serve.1 i } ∷ record { class = is.demand.0 i; most = is.demand.1 i } ∷ []

  pub the_width : layered_width p.budget (layered_width p.below.budget (layered_width p.below.below.budget 4)) ≡ product_width h
  the_width i = layered_width (is.travel.1 i) (layered_width (is.serve.1 i) (layered_width (is.demand.1 i) 4))
