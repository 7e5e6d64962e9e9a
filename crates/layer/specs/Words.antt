-- Words for what a layer's own functions promise: r is the meaning of the resource below, l the layer. Assumes nothing.
use Rattle.std.specs.Prelude.{ℕ, suc, Bool, List}
use Rattle.records.specs.declared.step.Step.{Step}
use Rattle.resource.specs.Rows.{Extension}
use Rattle.resource.specs.declared.interface.Resource.{Ghosts}
use Rattle.layered.specs.Layered.{Join, layered_width, layered_extension, layered_join}
use Rattle.layered.specs.Days.{accepted, chosen, Chose}
use Rattle.layer.specs.declared.Layer.{Layer}

-- how many rows of the resource below a layer has
abbrev pub rows_of : {B : Type 0} → Layer B → ℕ
rows_of l = suc l.budget

abbrev pub width_of : {B : Type 0} → Ghosts B → Layer B → ℕ
width_of r l = layered_width l.budget (r.width l.below)

-- the layer's extension and join, where rows below have w words
abbrev pub step_of : {B : Type 0} → Ghosts B → Layer B → ℕ → Extension
step_of r l w = layered_extension l.class l.budget w (r.extension l.below) (r.join l.below)

abbrev pub join_of : {B : Type 0} → Ghosts B → Layer B → ℕ → Join
join_of r l w = layered_join l.budget w (r.join l.below)

-- whether steps are accepted from a row below on, with at most so many of them marked; the first refused marks; one step of their choice
abbrev pub accepted_by : {B : Type 0} → Ghosts B → Layer B → List Step → List ℕ → List ℕ → ℕ → Bool
accepted_by r l = accepted (r.extension l.below) (r.verdict l.below) l.class

abbrev pub chosen_by : {B : Type 0} → Ghosts B → Layer B → List Step → List ℕ → List ℕ → ℕ → List ℕ
chosen_by r l = chosen (r.extension l.below) (r.verdict l.below) l.class

abbrev pub ChoseBy : {B : Type 0} → Ghosts B → Layer B → List Step → List ℕ → List ℕ → ℕ → List ℕ → List ℕ → ℕ → Type 0
ChoseBy r l = Chose (r.extension l.below) (r.verdict l.below) l.class
