-- From the lines that were read to the answer: each turn of the reader, and each way in which it ends. Assumes nothing.
use Rattle.std.proofs.Common.{◌≡◌, ℕ, suc, ◌+◌, ◌*◌, ◌<◌, ◌≤◌, true, false, List, [], ◌∷◌, ◌++◌, length, get_or, replicate, Some, None, Ok, Err, Result, sym, refl, ap, ◌∙◌, subst, inl, inr, ⊎_elim, add-one, arith}
use Rattle.std.specs.List.{flat_map}
use Rattle.std.specs.Result.{MatchResult}
use Rattle.std.proofs.lemmas.List.{append_assoc, append-nil, append_cancel_left, flat_map_more, length_push, get_or-replicate, get_or_past, length-replicate, nil_from_length}
use Rattle.std.proofs.lemmas.Bool.{both_ways, cases_lt}
use Rattle.lines.specs.declared.line.Line.{Line}
use Rattle.lines.specs.Forms.{line_text, form_of}
use Rattle.lines.specs.Lines.{BeginsWith, Parsed}
use Rattle.dayfile.specs.Bounds.{sound_stop, sound_leg, within, ordered, subject}
use Rattle.records.specs.Records.{no_head, no_stop, no_leg}
use Rattle.dayfile.specs.Days.{Day, Valid, Clean, day_lines, day_text}
use Rattle.dayfile.specs.Storing.{day_of, put}
use Rattle.dayfile.specs.Answers.{Stands, OutOfForm, OutOfBounds, OutOfTurn, GoesOn, NoDay, Refused, refused_line}
use Rattle.dayfile.specs.declared.expectation.Question.{Question}
use Rattle.dayfile.specs.declared.expectation.Question.TheVariants.{Form, Bounds, Turn}
use Rattle.dayfile.specs.declared.refusal.ReadRefusal.{ReadRefusal}
use Rattle.dayfile.specs.declared.expectation.Expectation.{Expectation}
use Rattle.dayfile.specs.declared.expectation.Expectation.TheVariants as due
use Rattle.dayfile.specs.Expecting.{form_due, subject_due, Passes, Judged}
use Rattle.dayfile.proofs.Following.{follows_form}
use Rattle.dayfile.specs.Walking.{line_due, from, Range}
use Rattle.dayfile.proofs.Places.{from_step}
use Rattle.dayfile.proofs.Agreeing.{Agrees, forth, back}
use Rattle.dayfile.proofs.Standing.{leads, in_form_lem, Fits, fits, filled_up, filled-valid, filled_agrees}
use Rattle.dayfile.proofs.Reading.{Sound, Zeros, sound_put, zeros_put, range_put, range_of}

-- The lines ls of the text were read into the day d; what is due next is e, on line `number`.
pub record Reading (text : List ℕ) (e : Expectation) (d : Day) (rest : List ℕ) (number : ℕ) : Type 0 where
  pub sound : Sound d
  pub range : Range e d
  pub zeros : Zeros e d
  pub ls : List Line
  pub split : text ≡ flat_map line_text ls ++ rest
  pub line : number ≡ suc (length ls)
  -- a day that has what was read begins with these lines
  pub first : (x : Day) → Agrees e d x → day_lines x ≡ ls ++ from x e
  -- a day that has this text has what was read
  pub exact : (x : Day) → Valid x → text ≡ day_text x → Agrees e d x × (rest ≡ flat_map line_text (from x e))

module _ (text : List ℕ) (e : Expectation) (d : Day) (rest : List ℕ) (number : ℕ) (so : Reading text e d rest number) where
  -- the line of a valid day that is due here
  expected : Line
  expected = line_due (filled_up e d) e

  stands : (e ≡ due.Nothing → ⊥) → Stands text so.ls expected rest
  unfolding expected
  stands some =
      let x = filled_up e d in
      let agrees = filled_agrees e d in
      let on = leads e x some in
      record {
        day = x;
        valid = filled-valid e d so.sound so.range;
        more = from x on.0;
        lines = so.first x agrees ∙ ap (λ q. so.ls ++ q) (from_step on.1 x (range_of e d x so.range agrees));
        split = so.split;
      }

  expected_form : (e ≡ due.Nothing → ⊥) → Some (form_of expected) ≡ form_due e
  unfolding expected
  expected_form some = follows_form (leads e (filled_up e d) some).1

  -- where a day has this text, its line is what stands here
  here : (x : Day) → Valid x → text ≡ day_text x → (e ≡ due.Nothing → ⊥) → (after : List ℕ) × BeginsWith rest (line_due x e) after
  here x v t some =
      let both = so.exact x v t in
      let r = range_of e d x so.range both.0 in
      let f = fits e x v r in
      let on = leads e x some in
      (flat_map line_text (from x on.0), (in_form_lem (line_due x e) f.0 f.3, both.1 ∙ ap (flat_map line_text) (from_step on.1 x r)))

  -- a line that was parsed is the only one that stands there
  only : (l : Line) (after : List ℕ) → Parsed rest (Some (l, after)) → (l' : Line) (after' : List ℕ) → BeginsWith rest l' after' → l ≡ l'
  only l after p l' after' b =
      let same = p.complete l' after' b in
      let pair : ◌≡◌ {A = Line × List ℕ} (l, after) (l', after') = cc in
      ap (λ q. q.0) pair

  pub no_line : (e ≡ due.Nothing → ⊥) → Parsed rest None → OutOfForm text number × NoDay text
  no_line some p =
      let never : ((l : Line) (after : List ℕ) → BeginsWith rest l after → ⊥) = λ l after b. let f = p.complete l after b in let z : ◌≡◌ {A = ℕ} 0 1 = cc in omega arith in (
        record { ls = so.ls; next = expected; rest = rest; stands = stands some; line = so.line; none = λ l after b f. never l after b },
        λ x v t. let h = here x v t some in never (line_due x e) h.0 h.1,
      )

  module _ (l : Line) (after : List ℕ) (p : Parsed rest (Some (l, after))) (some : e ≡ due.Nothing → ⊥) where
    begins : BeginsWith rest l after
    begins = p.sound l after refl

    -- where a day has this text, its line is the one that was parsed, and passes
    passes_for : (x : Day) → Valid x → text ≡ day_text x → Fits l e × (Some (form_of l) ≡ form_due e)
    passes_for x v t =
        let h = here x v t some in
        let same = only l after p (line_due x e) h.0 h.1 in
        let r = range_of e d x so.range (so.exact x v t).0 in
        subst (λ q. Fits q e × (Some (form_of q) ≡ form_due e)) (sym same) (fits e x v r, follows_form (leads e x some).1)

    same_form : Some (form_of l) ≡ form_due e → form_of l ≡ form_of expected
    same_form f = let g = expected_form some in cc

    pub other_form : (Some (form_of l) ≡ form_due e → ⊥) → OutOfForm text number × NoDay text
    other_form no-form = (
      record {
        ls = so.ls;
        next = expected;
        rest = rest;
        stands = stands some;
        line = so.line;
        none = λ l' after' b f. no-form (ap (λ q. Some (form_of q)) (only l after p l' after' b) ∙ ap Some f ∙ expected_form some);
      },
      λ x v t. no-form (passes_for x v t).1,
    )

    pub outside_bounds : Some (form_of l) ≡ form_due e → within l ≡ false → OutOfBounds text number × NoDay text
    outside_bounds f w = (
      record { ls = so.ls; next = expected; rest = rest; stands = stands some; line = so.line; here = l; after = after; begins = begins; form = same_form f; outside = w },
      λ x v t. both_ways _ w (passes_for x v t).0.0,
    )

    pub other_turn : Some (form_of l) ≡ form_due e → within l ≡ true → (subject l ≡ subject_due e → ordered l ≡ true → ⊥) → OutOfTurn text number × NoDay text
    unfolding expected
    other_turn f w o = (
      record {
        ls = so.ls;
        next = expected;
        rest = rest;
        stands = stands some;
        line = so.line;
        here = l;
        after = after;
        begins = begins;
        form = same_form f;
        inside = w;
        turn = λ same. o (same ∙ (fits e (filled_up e d) (filled-valid e d so.sound so.range) (range_of e d (filled_up e d) so.range (filled_agrees e d))).1);
      },
      λ x v t. let q = (passes_for x v t).0 in o q.1 q.2,
    )

    refused : (q : Question) → Judged e l (Err q) → NoDay text × Refused text (refused_line q number)
    refused Form j = let r = other_form j in (r.1, r.0)
    refused Bounds j = let r = outside_bounds j.0 j.1 in (r.1, r.0)
    refused Turn j = let r = other_turn j.0 j.1 j.2 in (r.1, r.0)

    pub refused_by : (j : Result Expectation Question) → Judged e l j → (w : ReadRefusal) → MatchResult j (λ next. ⊥) (λ q. w ≡ refused_line q number) → NoDay text × Refused text w
    refused_by (Ok next) j w is = absurd is
    refused_by (Err q) j w is = subst (λ x. NoDay text × Refused text x) (sym is) (refused q j)

    -- one line more
    pub one_more : (next : Expectation) → Passes e l next → Reading text next (put l d) after (number + 1)
    one_more next q =
        let counts = so.sound.stop_count in
        let counts' = so.sound.leg_count in
        record {
          sound = sound_put l d q.inside q.window so.sound;
          range = range_put q.follows d q.inside so.range;
          zeros = zeros_put q.follows d so.sound so.range q.turn so.zeros;
          ls = so.ls ++ l ∷ [];
          split = so.split ∙ ap (λ r. flat_map line_text so.ls ++ r) begins.1 ∙ sym (append_assoc (flat_map line_text so.ls) (line_text l) after) ∙ ap (λ r. r ++ after) (flat_map_more line_text [] so.ls l);
          line = add-one number ∙ ap suc (so.line ∙ sym (add-one (length so.ls))) ∙ ap suc (sym (length_push so.ls l));
          first = λ x a.
              let both = forth q.follows d x counts counts' so.range q.turn a in
              so.first x both.0 ∙ ap (λ r. so.ls ++ r) (from_step q.follows x (range_of e d x so.range both.0) ∙ ap (λ r. r ∷ from x next) both.1) ∙ sym (append_assoc so.ls (l ∷ []) (from x next));
          exact = λ x v t.
              let both = so.exact x v t in
              let h = here x v t some in
              let same = only l after p (line_due x e) h.0 h.1 in
              let on = from_step q.follows x (range_of e d x so.range both.0) ∙ ap (λ r. r ∷ from x next) (sym same) in (
                back q.follows d x counts counts' so.range q.turn both.0 (sym same),
                append_cancel_left (line_text l) after (flat_map line_text (from x next)) (sym begins.1 ∙ both.1 ∙ ap (flat_map line_text) on),
              );
        }

module _ (text : List ℕ) (d : Day) (rest : List ℕ) (number : ℕ) (so : Reading text due.Nothing d rest number) where
  all_lines : day_lines d ≡ so.ls
  all_lines = so.first d (filled_agrees due.Nothing d) ∙ append-nil so.ls

  is_valid : Valid d
  is_valid = filled-valid due.Nothing d so.sound so.range

  pub goes_on : 0 < length rest → GoesOn text number × NoDay text
  unfolding day_text
  goes_on some = (
    record { day = d; valid = is_valid; rest = rest; some = some; split = so.split ∙ ap (λ q. flat_map line_text q ++ rest) (sym all_lines); line = so.line ∙ ap (λ q. suc (length q)) (sym all_lines) },
    λ x v t. let e = ap length (so.exact x v t).1 in omega arith,
  )

  pub whole_day : length rest ≡ 0 → Valid d × Clean d × (text ≡ day_text d)
  unfolding day_text
  whole_day none =
      let z = so.zeros in (
        is_valid,
        record {
          stop_count = so.sound.stop_count;
          leg_count = so.sound.leg_count;
          depot = z.depot;
          spare_stop = λ k h. z.stop k (omega arith);
          no_leg_home = λ i h. z.leg i i h (inl refl);
          spare_leg_from = λ i j h g. z.leg i j h (inr (inr (⊎_elim (λ e. omega arith) (λ e. omega arith))));
          spare_leg_to = λ i j h g. z.leg i j h (inr (inl g));
        },
        so.split ∙ ap (λ q. flat_map line_text so.ls ++ q) (nil_from_length rest none) ∙ append-nil (flat_map line_text so.ls) ∙ ap (flat_map line_text) (sym all_lines),
      )

-- tables that are all 0
pub no_stops_lem : (k : ℕ) → get_or (replicate 41 no_stop) k no_stop ≡ no_stop
no_stops_lem k = ⊎_elim (λ h. get_or-replicate 41 k no_stop no_stop h) (λ h. get_or_past (replicate 41 no_stop) k no_stop h) (cases_lt k 41)

pub no_legs : (k : ℕ) → get_or (replicate 1681 no_leg) k no_leg ≡ no_leg
no_legs k = ⊎_elim (λ h. get_or-replicate 1681 k no_leg no_leg h) (λ h. get_or_past (replicate 1681 no_leg) k no_leg (omega (arith, length-replicate 1681 no_leg))) (cases_lt k 1681)

-- before the first line
pub at_start : (text : List ℕ) → Reading text due.Day (day_of no_head (replicate 41 no_stop) (replicate 1681 no_leg)) text 1
unfolding day_text
at_start text = record {
  sound = record {
    head = record { capacity = refl; drive = refl; travel_budget = refl; serve_budget = refl; demand_budget = refl };
    stop_count = length-replicate 41 no_stop;
    leg_count = length-replicate 1681 no_leg;
    stop = λ k. subst (λ s. (sound_stop s ≡ true) × (s.opens ≤ s.closes)) (sym (no_stops_lem k)) (refl, omega arith);
    leg = λ k. subst (λ l. sound_leg l ≡ true) (sym (no_legs k)) refl;
  };
  range = tt;
  zeros = record { depot = refl; stop = λ m h. no_stops_lem m; leg = λ a b h c. no_legs (41 * a + b) };
  ls = [];
  split = refl;
  line = refl;
  first = λ x a. refl;
  exact = λ x v t. (tt, t);
}
