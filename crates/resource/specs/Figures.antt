-- The figures of a step under its marks. Assumes nothing.
use Rattle.std.specs.Prelude.{ℕ, ◌+◌, cond, ◌==◌, bit_and}
use Rattle.records.specs.declared.step.Step.{Step}

-- a figure under marks: a mark of its class adds the deviation
abbrev pub marked : ℕ → ℕ → ℕ → ℕ → ℕ
marked class marks figure deviation = cond (bit_and marks class == 0) figure (figure + deviation)

-- the time on the way to the stop; its class is 1
abbrev pub travel : Step → ℕ → ℕ
travel s m = marked 1 m s.leg.travel s.leg.travel_deviation

-- the time that the stop takes; its class is 2
abbrev pub serve : Step → ℕ → ℕ
serve s m = marked 2 m s.stop.serve s.stop.serve_deviation

-- what is delivered and what is picked up at the stop; one class, demand, for both: 4
abbrev pub deliver : Step → ℕ → ℕ
deliver s m = marked 4 m s.stop.deliver s.stop.deliver_deviation

abbrev pub pickup : Step → ℕ → ℕ
pickup s m = marked 4 m s.stop.pickup s.stop.pickup_deviation
