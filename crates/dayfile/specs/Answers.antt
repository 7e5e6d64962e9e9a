-- What reading and writing a day answer, and what the tables and the buffer then hold. Assumes nothing.
use Rattle.std.specs.Prelude.{◌≡◌, ℕ, suc, ◌<◌, ◌≤◌, true, false, List, ◌∷◌, ◌++◌, length, drop, replicate, codes, decimal, Ok, Err, Result, ◌≢◌}
use Rattle.std.specs.List.{flat_map}
use Rattle.records.specs.declared.Head.{Head}
use Rattle.records.specs.declared.Stop.{Stop}
use Rattle.records.specs.declared.Leg.{Leg}
use Rattle.lines.specs.declared.line.Line.{Line}
use Rattle.lines.specs.Forms.{line_text, form_of}
use Rattle.lines.specs.Lines.{BeginsWith}
use Rattle.dayfile.specs.Bounds.{within, ordered, subject}
use Rattle.records.specs.Records.{no_stop, no_leg}
use Rattle.dayfile.specs.Days.{Day, Valid, Clean, day_lines, day_text}
use Rattle.dayfile.specs.Storing.{day_of}
use Rattle.dayfile.specs.declared.expectation.Question.{Question}
use Rattle.dayfile.specs.declared.expectation.Question.TheVariants as question
use Rattle.dayfile.specs.declared.refusal.ReadRefusal.{ReadRefusal}
use Rattle.dayfile.specs.declared.refusal.ReadRefusal.TheVariants as read
use Rattle.dayfile.specs.declared.refusal.WriteRefusal.{WriteRefusal}
use Rattle.dayfile.specs.declared.refusal.WriteRefusal.TheVariants as write
use Rattle.dayfile.specs.declared.refusal.CopyRefusal.{CopyRefusal}
use Rattle.dayfile.specs.declared.refusal.CopyRefusal.TheVariants as copy

-- the longest text that is read, and the shortest buffer that is written to
abbrev pub longest : ℕ
longest = 65536

-- the number of each refusal
abbrev pub read_number : ReadRefusal → ℕ
read_number read.TooLong = 1
read_number read.OtherTables = 2
read_number (read.Form line) = 3
read_number (read.Bounds line) = 4
read_number (read.Turn line) = 5
read_number (read.Trailing line) = 6

-- the line that it names, or 0
abbrev pub read_line : ReadRefusal → ℕ
read_line read.TooLong = 0
read_line read.OtherTables = 0
read_line (read.Form line) = line
read_line (read.Bounds line) = line
read_line (read.Turn line) = line
read_line (read.Trailing line) = line

abbrev pub write_number : WriteRefusal → ℕ
write_number write.OtherTables = 2
write_number write.Figures = 7
write_number write.ShortBuffer = 8

-- what each refusal is printed as
abbrev pub unread_text : ReadRefusal → List ℕ
unread_text r = codes "(unread " ++ decimal (read_number r) ++ codes " " ++ decimal (read_line r) ++ codes ")"

abbrev pub unwritten_text : WriteRefusal → List ℕ
unwritten_text r = codes "(unwritten " ++ decimal (write_number r) ++ codes ")"

abbrev pub refusal_text : CopyRefusal → List ℕ
refusal_text (copy.Unread r) = unread_text r
refusal_text (copy.Unwritten r) = unwritten_text r

abbrev pub Sized : List Stop → List Leg → Type 0
Sized ss ls = (length ss ≡ 41) × (length ls ≡ 1681)

-- The text begins with the lines ls, which are the first lines of a valid day; that day's next line is `next`, and the
-- text goes on with `rest`.
pub record Stands (text : List ℕ) (ls : List Line) (next : Line) (rest : List ℕ) : Type 0 where
  pub day : Day
  pub valid : Valid day
  pub more : List Line
  pub lines : day_lines day ≡ ls ++ next ∷ more
  pub split : text ≡ flat_map line_text ls ++ rest

-- The lines before line n stand, and no line of the form due there follows.
pub record OutOfForm (text : List ℕ) (n : ℕ) : Type 0 where
  pub ls : List Line
  pub next : Line
  pub rest : List ℕ
  pub stands : Stands text ls next rest
  pub line : n ≡ suc (length ls)
  pub none : (l : Line) (after : List ℕ) → BeginsWith rest l after → form_of l ≢ form_of next

-- The lines before line n stand, and a line of the form due there follows, of which a number is out of bounds.
pub record OutOfBounds (text : List ℕ) (n : ℕ) : Type 0 where
  pub ls : List Line
  pub next : Line
  pub rest : List ℕ
  pub stands : Stands text ls next rest
  pub line : n ≡ suc (length ls)
  pub here : Line
  pub after : List ℕ
  pub begins : BeginsWith rest here after
  pub form : form_of here ≡ form_of next
  pub outside : within here ≡ false

-- The lines before line n stand, and a line of the form due there follows, within bounds, that is about another stop or
-- leg than the one next in turn, or whose window closes before it opens.
pub record OutOfTurn (text : List ℕ) (n : ℕ) : Type 0 where
  pub ls : List Line
  pub next : Line
  pub rest : List ℕ
  pub stands : Stands text ls next rest
  pub line : n ≡ suc (length ls)
  pub here : Line
  pub after : List ℕ
  pub begins : BeginsWith rest here after
  pub form : form_of here ≡ form_of next
  pub inside : within here ≡ true
  pub turn : subject here ≡ subject next → ordered here ≢ true

-- All lines of a valid day stand, and the text goes on after them.
pub record GoesOn (text : List ℕ) (n : ℕ) : Type 0 where
  pub day : Day
  pub valid : Valid day
  pub rest : List ℕ
  pub some : 0 < length rest
  pub split : text ≡ day_text day ++ rest
  pub line : n ≡ suc (length (day_lines day))

-- why a text of a length that is read is refused
abbrev pub Refused : List ℕ → ReadRefusal → Type 0
Refused text read.TooLong = ⊥
Refused text read.OtherTables = ⊥
Refused text (read.Form n) = OutOfForm text n
Refused text (read.Bounds n) = OutOfBounds text n
Refused text (read.Turn n) = OutOfTurn text n
Refused text (read.Trailing n) = GoesOn text n

-- the refusal of a line that answers a question no
abbrev pub refused_line : Question → ℕ → ReadRefusal
refused_line question.Form n = read.Form n
refused_line question.Bounds n = read.Bounds n
refused_line question.Turn n = read.Turn n

-- no valid day has this text
abbrev pub NoDay : List ℕ → Type 0
NoDay text = (d : Day) → Valid d → text ≢ day_text d

-- The lines of a text, read into tables that were all 0.
abbrev pub LinesRead : List ℕ → Result Head ReadRefusal → List Stop → List Leg → Type 0
LinesRead text (Ok h) ss ls = Valid (day_of h ss ls) × Clean (day_of h ss ls) × (text ≡ day_text (day_of h ss ls))
LinesRead text (Err e) ss ls = NoDay text × Refused text e

-- The answer to a text of a length that is read, with tables of their lengths: the day whose text it is, in the tables, or
-- why it is that of no day, and the tables all 0.
abbrev pub Answered : List ℕ → Result Head ReadRefusal → List Stop → List Leg → Type 0
Answered text (Ok h) ss ls = Valid (day_of h ss ls) × Clean (day_of h ss ls) × (text ≡ day_text (day_of h ss ls))
Answered text (Err e) ss ls = NoDay text × Refused text e × (ss ≡ replicate 41 no_stop) × (ls ≡ replicate 1681 no_leg)

-- Reading, for every text and every pair of tables: first the text's length is asked, then those of the tables, and where
-- one of these is refused the tables stay as they were. A text that is too long is that of no day.
pub record Read (text : List ℕ) (ss₀ : List Stop) (ls₀ : List Leg) (r : Result Head ReadRefusal) (ss : List Stop) (ls : List Leg) : Type 0 where
  pub too_long : longest < length text → NoDay text × (r ≡ Err read.TooLong) × (ss ≡ ss₀) × (ls ≡ ls₀)
  pub other_tables : length text ≤ longest → (Sized ss₀ ls₀ → ⊥) → (r ≡ Err read.OtherTables) × (ss ≡ ss₀) × (ls ≡ ls₀)
  pub answered : length text ≤ longest → Sized ss₀ ls₀ → Answered text r ss ls

-- Writing, for every head, all tables and every buffer: the tables' lengths are asked, then the figures, then the buffer's
-- length. Where all are granted, the buffer begins with the day's text, and its other bytes stay; else all stay.
pub record Written (d : Day) (old : List ℕ) (r : Result ℕ WriteRefusal) (new : List ℕ) : Type 0 where
  pub other_tables : (Sized d.stops d.legs → ⊥) → (r ≡ Err write.OtherTables) × (new ≡ old)
  pub not_valid : Sized d.stops d.legs → (Valid d → ⊥) → (r ≡ Err write.Figures) × (new ≡ old)
  pub too_short : Sized d.stops d.legs → Valid d → length old < longest → (r ≡ Err write.ShortBuffer) × (new ≡ old)
  pub granted : Sized d.stops d.legs → Valid d → longest ≤ length old → (r ≡ Ok (length (day_text d))) × (new ≡ day_text d ++ drop (length (day_text d)) old)

-- Reading a text and writing it again: the bytes are the same. Where the text is not read, or the buffer is too short for
-- a day that was read, the buffer stays.
abbrev pub Copied : List ℕ → List Stop → List Leg → List ℕ → Result ℕ CopyRefusal → List Stop → List Leg → List ℕ → Type 0
Copied text ss₀ ls₀ old (Ok n) ss ls new = ((h : Head) × Read text ss₀ ls₀ (Ok h) ss ls) × (n ≡ length text) × (new ≡ text ++ drop (length text) old)
Copied text ss₀ ls₀ old (Err (copy.Unread e)) ss ls new = Read text ss₀ ls₀ (Err e) ss ls × (new ≡ old)
Copied text ss₀ ls₀ old (Err (copy.Unwritten e)) ss ls new =
    ((h : Head) × Read text ss₀ ls₀ (Ok h) ss ls) × (length old < longest) × (e ≡ write.ShortBuffer) × (new ≡ old)
