-- A day that is lent for reading, and those of its lines that are left. Assumes nothing.
use Rattle.std.specs.Prelude.{◌≡◌, true, List}
use Rattle.lines.specs.declared.line.Line.{Line}
use Rattle.dayfile.specs.Bounds.{is_count}
use Rattle.dayfile.specs.Days as days
use Rattle.dayfile.specs.Storing.{day_of}
use Rattle.dayfile.specs.Walking.{count, from, Range}
use Rattle.dayfile.specs.declared.day.Day.{Day}
use Rattle.dayfile.specs.declared.day.Lines.{Lines}
use Rattle.dayfile.specs.declared.expectation.Expectation.TheVariants as due

abbrev pub day_in : Day → days.Day
day_in d = day_of d.head d.tables.stops.now d.tables.legs.now

-- the lines of a day from the first one on
abbrev pub at_first : Day → Lines
at_first d = record { day = d; due = due.Day }

abbrev pub lines_left : Lines → List Line
lines_left s = from (day_in s.day) s.due

-- the line that is due is one of the day's, and the day has as many stops as a day may have
pub record CanStep (s : Lines) : Type 0 where
  pub place : Range s.due (day_in s.day)
  pub few : is_count (count (day_in s.day)) ≡ true
