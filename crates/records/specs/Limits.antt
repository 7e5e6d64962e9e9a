-- The limits that the rules fix for a day. Assumes nothing.
use Rattle.std.specs.Prelude.{ℕ, ◌+◌, ◌*◌}

-- the most stops that a day has, and so the last place that a leg leads from or to
abbrev pub most_stops : ℕ
most_stops = 40

-- how many records the stop table has; a route has at most as many steps
abbrev pub stop_records : ℕ
stop_records = most_stops + 1

-- how many records the leg table has: one for each ordered pair of places
abbrev pub leg_records : ℕ
leg_records = stop_records * stop_records
