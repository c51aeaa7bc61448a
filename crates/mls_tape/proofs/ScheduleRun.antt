-- How the reader of a schedule goes from line to line.
use Rattle.std.proofs.Common.{◌≡◌, ℕ, suc, ◌+◌, ◌-◌, ◌≤◌, ◌<◌, List, [], ◌∷◌, ◌++◌, length, Option, Some, None, Result, Ok, Err, refl, sym, ap, ◌∙◌, append_assoc, length-append, arith}
use Rattle.std.proofs.lemmas.List.{append-nil}
use Rattle.mls_model.specs.declared.lanes.SchedWhy.{SchedWhy}
use Rattle.mls_model.specs.declared.lanes.SchedWhy.TheVariants as why
use Rattle.mls_model.specs.Lanes.{Lane}
use Rattle.mls_model.specs.Schedules.{schedule_line}
use Rattle.mls_tape.specs.declared.lines.Passed.{Passed}
use Rattle.mls_tape.specs.ScheduleLines.{lines_text, AreLegalLines, IsScheduleOf, IsRefusedAt}
use Rattle.mls_tape.specs.ScheduleReading.{LineRefusal, line_in, line_refusal, lines_from, lists_of, schedule_of, refused_behind}
use Rattle.mls_tape.specs.Passed.{StandsFor, lists_seen}
use Rattle.mls_tape.proofs.ScheduleNumbers.{line_in_found, begins, begins_not, line_some}
use Rattle.mls_tape.proofs.Passing.{passes_for, refused_for, legal_push, none_legal}

-- ---- one line of the definition

after_refusal : ℕ → List Lane → ℕ → List (ℕ × ℕ) → (ℕ × ℕ) × List ℕ → Option SchedWhy → Result (List (ℕ × ℕ)) LineRefusal
after_refusal ranks lanes most before x o = elim o [ None ↦ lines_from ranks lanes most (before ++ x.0 ∷ []) x.1 | Some reason ↦ refused_behind before reason ]

after_line : ℕ → List Lane → ℕ → List (ℕ × ℕ) → Option ((ℕ × ℕ) × List ℕ) → Result (List (ℕ × ℕ)) LineRefusal
after_line ranks lanes most before o = elim o [ None ↦ refused_behind before why.Form | Some x ↦ after_refusal ranks lanes most before x (line_refusal ranks lanes before x.0) ]

lines_more : (ranks : ℕ) (lanes : List Lane) (most : ℕ) (before : List (ℕ × ℕ)) (rest : List ℕ) → 0 < length rest → lines_from ranks lanes (suc most) before rest ≡ after_line ranks lanes most before (line_in rest)
unfolding lines_from after_line after_refusal
lines_more ranks lanes most before [] some = absurd (omega (arith, some))
lines_more ranks lanes most before (b ∷ rest) some = refl

pub line_goes_on : (ranks : ℕ) (lanes : List Lane) (most : ℕ) (before : List (ℕ × ℕ)) (rest : List ℕ) (line : ℕ × ℕ) (after : List ℕ) → 0 < length rest → line_in rest ≡ Some (line, after) → line_refusal ranks lanes before line ≡ None → lines_from ranks lanes (suc most) before rest ≡ lines_from ranks lanes most (before ++ line ∷ []) after
unfolding after_line after_refusal
line_goes_on ranks lanes most before rest line after some found passes =
    lines_more ranks lanes most before rest some
    ∙ ap (after_line ranks lanes most before) found
    ∙ ap (after_refusal ranks lanes most before (line, after)) passes

pub line_stops : (ranks : ℕ) (lanes : List Lane) (most : ℕ) (before : List (ℕ × ℕ)) (rest : List ℕ) (line : ℕ × ℕ) (after : List ℕ) (reason : SchedWhy) → 0 < length rest → line_in rest ≡ Some (line, after) → line_refusal ranks lanes before line ≡ Some reason → lines_from ranks lanes (suc most) before rest ≡ refused_behind before reason
unfolding after_line after_refusal
line_stops ranks lanes most before rest line after reason some found refused =
    lines_more ranks lanes most before rest some
    ∙ ap (after_line ranks lanes most before) found
    ∙ ap (after_refusal ranks lanes most before (line, after)) refused

pub no_line_stops : (ranks : ℕ) (lanes : List Lane) (most : ℕ) (before : List (ℕ × ℕ)) (rest : List ℕ) → 0 < length rest → line_in rest ≡ None → lines_from ranks lanes (suc most) before rest ≡ refused_behind before why.Form
unfolding after_line
no_line_stops ranks lanes most before rest some none =
    lines_more ranks lanes most before rest some
    ∙ ap (after_line ranks lanes most before) none

pub lines_end : (ranks : ℕ) (lanes : List Lane) (most : ℕ) (before : List (ℕ × ℕ)) → lines_from ranks lanes most before [] ≡ Ok before
unfolding lines_from
lines_end ranks lanes most before = refl

-- ---- the lines so far

-- The lines that passed are kept, they are the front of the bytes, and the rest is left to read.
pub record IsGoing (ranks : ℕ) (lanes : List Lane) (bytes : List ℕ) (passed : Passed) (line : ℕ) (rest : List ℕ) : Type 0 where
  pub lines : List (ℕ × ℕ)
  pub stands : StandsFor ranks (length lanes) passed lines
  pub legal : AreLegalLines ranks lanes lines
  pub is_text : bytes ≡ lines_text lines ++ rest
  pub line_is : line ≡ length lines + 1
  pub few : length lines + length rest ≤ length bytes
  pub most : ℕ
  pub enough : length rest ≤ most
  pub goes : lines_from ranks lanes (length bytes) [] bytes ≡ lines_from ranks lanes most lines rest

pub going_begins : (ranks : ℕ) (lanes : List Lane) (bytes : List ℕ) (passed : Passed) → StandsFor ranks (length lanes) passed [] → IsGoing ranks lanes bytes passed 1 bytes
unfolding lines_text
going_begins ranks lanes bytes passed stands = record {
  lines = [];
  stands = stands;
  legal = none_legal ranks lanes;
  is_text = refl;
  line_is = refl;
  few = omega arith;
  most = length bytes;
  enough = omega arith;
  goes = refl;
}

pub text_push : (lines : List (ℕ × ℕ)) (line : ℕ × ℕ) → lines_text (lines ++ line ∷ []) ≡ lines_text lines ++ schedule_line line.0 line.1
unfolding lines_text
text_push [] line = append-nil (schedule_line line.0 line.1)
text_push (x ∷ lines) line = ap (λ l. schedule_line x.0 x.1 ++ l) (text_push lines line) ∙ sym (append_assoc (schedule_line x.0 x.1) (lines_text lines) (schedule_line line.0 line.1))

pub going_on : (ranks : ℕ) (lanes : List Lane) (bytes : List ℕ) (passed after : Passed) (n m : ℕ) (rest behind : List ℕ) (line : ℕ × ℕ) (g : IsGoing ranks lanes bytes passed n rest) → line_in rest ≡ Some (line, behind) → line_refusal ranks lanes g.lines line ≡ None → StandsFor ranks (length lanes) after (g.lines ++ line ∷ []) → m ≡ n + 1 → IsGoing ranks lanes bytes after m behind
going_on ranks lanes bytes passed after n m rest behind line g found passes stands next =
    let is = line_in_found rest line behind found in
    let size : length rest ≡ length (schedule_line line.0 line.1) + length behind = ap length is.0 ∙ length-append (schedule_line line.0 line.1) behind in
    let some : 0 < length rest = omega (arith, size, line_some line.0 line.1) in
    let one_more : g.most ≡ suc (g.most - 1) = omega (arith, some, g.enough) in
    record {
      lines = g.lines ++ line ∷ [];
      stands = stands;
      legal = legal_push ranks lanes g.lines line g.legal (passes_for ranks lanes g.lines line passes);
      is_text = g.is_text ∙ ap (λ l. lines_text g.lines ++ l) is.0 ∙ sym (append_assoc (lines_text g.lines) (schedule_line line.0 line.1) behind) ∙ ap (λ l. l ++ behind) (sym (text_push g.lines line));
      line_is = omega (arith, next, g.line_is, length-append g.lines (line ∷ []));
      few = omega (arith, g.few, size, line_some line.0 line.1, length-append g.lines (line ∷ []));
      most = g.most - 1;
      enough = omega (arith, g.enough, size, line_some line.0 line.1);
      goes = g.goes ∙ ap (λ k. lines_from ranks lanes k g.lines rest) one_more ∙ line_goes_on ranks lanes (g.most - 1) g.lines rest line behind some found passes;
    }

-- ---- the ends

pub no_line_refused : (ranks : ℕ) (lanes : List Lane) (bytes : List ℕ) (passed : Passed) (n : ℕ) (rest : List ℕ) → IsGoing ranks lanes bytes passed n rest → 0 < length rest → line_in rest ≡ None → IsRefusedAt ranks lanes bytes n why.Form
no_line_refused ranks lanes bytes passed n rest g some none = record {
  before = g.lines;
  rest = rest;
  is_text = g.is_text;
  legal = g.legal;
  line_is = g.line_is;
  some = some;
  fails = begins_not rest none;
}

pub line_refused : (ranks : ℕ) (lanes : List Lane) (bytes : List ℕ) (passed : Passed) (n : ℕ) (rest behind : List ℕ) (line : ℕ × ℕ) (reason : SchedWhy) (g : IsGoing ranks lanes bytes passed n rest) → 0 < length rest → line_in rest ≡ Some (line, behind) → line_refusal ranks lanes g.lines line ≡ Some reason → IsRefusedAt ranks lanes bytes n reason
line_refused ranks lanes bytes passed n rest behind line reason g some found refused = record {
  before = g.lines;
  rest = rest;
  is_text = g.is_text;
  legal = g.legal;
  line_is = g.line_is;
  some = some;
  fails = refused_for ranks lanes g.lines rest line reason (begins rest line behind found) refused;
}

refusal_at : (before : List (ℕ × ℕ)) (n : ℕ) (reason : SchedWhy) → n ≡ length before + 1 → refused_behind before reason ≡ Err (record { line = n; why = reason })
refusal_at before n reason e = ap (λ (k : ℕ). Err (record { line = k; why = reason })) (sym e)

pub no_line_exact : (ranks : ℕ) (lanes : List Lane) (bytes : List ℕ) (passed : Passed) (n : ℕ) (rest : List ℕ) → IsGoing ranks lanes bytes passed n rest → 0 < length rest → line_in rest ≡ None → schedule_of ranks lanes bytes ≡ Err (record { line = n; why = why.Form })
unfolding schedule_of
no_line_exact ranks lanes bytes passed n rest g some none =
    let one_more : g.most ≡ suc (g.most - 1) = omega (arith, some, g.enough) in
    ap (lists_of ranks) (
    g.goes
    ∙ ap (λ k. lines_from ranks lanes k g.lines rest) one_more
    ∙ no_line_stops ranks lanes (g.most - 1) g.lines rest some none
    ∙ refusal_at g.lines n why.Form g.line_is
    )

pub line_exact : (ranks : ℕ) (lanes : List Lane) (bytes : List ℕ) (passed : Passed) (n : ℕ) (rest behind : List ℕ) (line : ℕ × ℕ) (reason : SchedWhy) (g : IsGoing ranks lanes bytes passed n rest) → 0 < length rest → line_in rest ≡ Some (line, behind) → line_refusal ranks lanes g.lines line ≡ Some reason → schedule_of ranks lanes bytes ≡ Err (record { line = n; why = reason })
unfolding schedule_of
line_exact ranks lanes bytes passed n rest behind line reason g some found refused =
    let one_more : g.most ≡ suc (g.most - 1) = omega (arith, some, g.enough) in
    ap (lists_of ranks) (
    g.goes
    ∙ ap (λ k. lines_from ranks lanes k g.lines rest) one_more
    ∙ line_stops ranks lanes (g.most - 1) g.lines rest line behind reason some found refused
    ∙ refusal_at g.lines n reason g.line_is
    )

nothing_left : (rest : List ℕ) → length rest ≡ 0 → rest ≡ []
nothing_left [] e = refl
nothing_left (b ∷ rest) e = absurd (omega arith)

pub all_read : (ranks : ℕ) (lanes : List Lane) (bytes : List ℕ) (passed : Passed) (n : ℕ) (rest : List ℕ) → IsGoing ranks lanes bytes passed n rest → length rest ≡ 0 → IsScheduleOf ranks lanes bytes (lists_seen passed.lists.items)
all_read ranks lanes bytes passed n rest g none = record {
  lines = g.lines;
  is_text = g.is_text ∙ ap (λ l. lines_text g.lines ++ l) (nothing_left rest none) ∙ append-nil (lines_text g.lines);
  legal = g.legal;
  orders_are = g.stands.lists;
}

pub all_exact : (ranks : ℕ) (lanes : List Lane) (bytes : List ℕ) (passed : Passed) (n : ℕ) (rest : List ℕ) → IsGoing ranks lanes bytes passed n rest → length rest ≡ 0 → schedule_of ranks lanes bytes ≡ Ok (lists_seen passed.lists.items)
unfolding schedule_of
all_exact ranks lanes bytes passed n rest g none =
    ap (lists_of ranks) (
    g.goes
    ∙ ap (lines_from ranks lanes g.most g.lines) (nothing_left rest none)
    ∙ lines_end ranks lanes g.most g.lines
    )
    ∙ ap Ok (sym g.stands.lists)
