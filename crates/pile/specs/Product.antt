-- The product's pile: travel outermost, then serve, then demand, over time beside load and duty. Assumes nothing.
use Rattle.std.specs.Prelude.{◌≡◌, ℕ, cond, ◌&&◌, List, [], ◌∷◌, Some, None, Option, nat_le}
use Rattle.records.specs.declared.Head.{Head}
use Rattle.resource.specs.declared.refusal.Refusal.{Refusal}
use Rattle.resource.specs.declared.refusal.Refusal.TheVariants.{FigureTooGreat, BudgetTooGreat}
use Rattle.resource.specs.Scenarios.{Budget, Accepts}
use Rattle.time.specs.Hours.{on_time}
use Rattle.load.specs.Carrying.{never_overloaded}
use Rattle.duty.specs.Driving.{rests_in_time}
use Rattle.layered.specs.Layered.{layered_width}
use Rattle.time.specs.declared.Time.{Time}
use Rattle.load.specs.declared.Load.{Load}
use Rattle.duty.specs.declared.Duty.{Duty}
use Rattle.pair.specs.declared.Pair.{Pair}
use Rattle.layer.specs.declared.Layer.{Layer}

abbrev pub Product : Type 0
Product = Layer (Layer (Layer (Pair Time (Pair Load Duty))))

-- what is refused: first a figure of the resources that is too great, then a budget
abbrev pub refusing : Head → ℕ → Option Refusal
refusing h opens =
    cond (nat_le opens 100000 && (nat_le h.capacity 10000 && nat_le h.drive 100000)) (cond (nat_le h.demand_budget 8 && (nat_le h.serve_budget 8 && nat_le h.travel_budget 8)) None (Some BudgetTooGreat)) (Some FigureTooGreat)

-- the pile of a day
pub record PileOf (h : Head) (opens : ℕ) (p : Product) : Type 0 where
  pub travel : (p.class ≡ 1) × (p.budget ≡ h.travel_budget)
  pub serve : (p.below.class ≡ 2) × (p.below.budget ≡ h.serve_budget)
  pub demand : (p.below.below.class ≡ 4) × (p.below.below.budget ≡ h.demand_budget)
  pub time : p.below.below.below.first.beginning ≡ opens
  pub load : p.below.below.below.second.first.capacity ≡ h.capacity
  pub duty : p.below.below.below.second.second.limit ≡ h.drive

-- its layers, the outermost first
abbrev pub product_layers : Head → List Budget
product_layers h =
    record { class = 1; most = h.travel_budget } ∷ record { class = 2; most = h.serve_budget } ∷ record { class = 4; most = h.demand_budget } ∷ []

-- the width of its rows: four words under three layers
abbrev pub product_width : Head → ℕ
product_width h = layered_width h.travel_budget (layered_width h.serve_budget (layered_width h.demand_budget 4))

-- What the resource under it accepts, said of the route: with its marks, the van is in time everywhere, never carries too
-- much, and is never driven for too long without a rest.
abbrev pub keeps_all : Head → ℕ → Accepts
keeps_all h opens ss ms = on_time opens ss ms && (never_overloaded h.capacity ss ms && rests_in_time h.drive ss ms)
