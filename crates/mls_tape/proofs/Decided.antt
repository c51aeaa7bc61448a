-- Bytes are a legal schedule, or a line of them is refused, as the definition says.
use Rattle.std.proofs.Common.{◌≡◌, ℕ, zero, suc, ◌≤◌, ◌<◌, true, List, [], ◌∷◌, ◌++◌, length, Option, Some, None, Result, Ok, Err, refl, sym, ap, subst, ◌∙◌, append_assoc, length-append, arith}
use Rattle.std.proofs.lemmas.List.{append-nil}
use Rattle.mls_model.specs.declared.lanes.SchedWhy.{SchedWhy}
use Rattle.mls_model.specs.declared.lanes.SchedWhy.TheVariants as why
use Rattle.mls_model.specs.Lanes.{Lane}
use Rattle.mls_model.specs.Schedules.{is_legal, schedule_line}
use Rattle.mls_tape.specs.ScheduleLines.{lines_text, AreLegalLines, IsScheduleOf, IsRefusedAt, Fails}
use Rattle.mls_tape.specs.ScheduleReading.{LineRefusal, line_in, line_refusal, lines_from, lists_of, schedule_of, refused_behind}
use Rattle.mls_tape.proofs.ScheduleNumbers.{line_in_found, begins, begins_not, line_some}
use Rattle.mls_tape.proofs.Passing.{passes_for, refused_for, legal_push, none_legal}
use Rattle.mls_tape.proofs.ScheduleRun.{line_goes_on, line_stops, no_line_stops, lines_end, text_push}
use Rattle.mls_tape.proofs.Legal.{schedule_legal}

-- what the lines of the bytes are
IsRight : ℕ → List Lane → List ℕ → Result (List (ℕ × ℕ)) LineRefusal → Type 0
IsRight ranks lanes bytes (Ok lines) = (bytes ≡ lines_text lines) × AreLegalLines ranks lanes lines
IsRight ranks lanes bytes (Err refusal) = IsRefusedAt ranks lanes bytes refusal.line refusal.why

refused_right : (ranks : ℕ) (lanes : List Lane) (bytes : List ℕ) (before : List (ℕ × ℕ)) (rest : List ℕ) (reason : SchedWhy) → bytes ≡ lines_text before ++ rest → AreLegalLines ranks lanes before → 0 < length rest → Fails ranks lanes before rest reason → IsRight ranks lanes bytes (refused_behind before reason)
unfolding IsRight
refused_right ranks lanes bytes before rest reason text legal some fails = record {
  before = before;
  rest = rest;
  is_text = text;
  legal = legal;
  line_is = refl;
  some = some;
  fails = fails;
}

right_from : (ranks : ℕ) (lanes : List Lane) (bytes : List ℕ) (most : ℕ) (before : List (ℕ × ℕ)) (rest : List ℕ) → bytes ≡ lines_text before ++ rest → AreLegalLines ranks lanes before → length rest ≤ most → IsRight ranks lanes bytes (lines_from ranks lanes most before rest)
unfolding IsRight
right_from ranks lanes bytes most before [] text legal enough =
    subst (IsRight ranks lanes bytes) (sym (lines_end ranks lanes most before)) (text ∙ append-nil (lines_text before), legal)
right_from ranks lanes bytes zero before (b ∷ rest) text legal enough = absurd (omega (arith, enough))
right_from ranks lanes bytes (suc most) before (b ∷ rest) text legal enough =
    by_line ranks lanes bytes most before (b ∷ rest) text legal (omega arith) (λ next behind t l short. right_from ranks lanes bytes most next behind t l (omega (arith, short, enough))) (line_in (b ∷ rest)) refl
  where
    by_reason : (ranks : ℕ) (lanes : List Lane) (bytes : List ℕ) (most : ℕ) (before : List (ℕ × ℕ)) (rest : List ℕ) → bytes ≡ lines_text before ++ rest → AreLegalLines ranks lanes before → 0 < length rest → ((next : List (ℕ × ℕ)) (behind : List ℕ) → bytes ≡ lines_text next ++ behind → AreLegalLines ranks lanes next → length behind < length rest → IsRight ranks lanes bytes (lines_from ranks lanes most next behind)) → (line : ℕ × ℕ) (behind : List ℕ) → line_in rest ≡ Some (line, behind) → (o : Option SchedWhy) → line_refusal ranks lanes before line ≡ o → IsRight ranks lanes bytes (lines_from ranks lanes (suc most) before rest)
    by_reason ranks lanes bytes most before rest text legal some later line behind found (Some reason) refused =
        subst (IsRight ranks lanes bytes) (sym (line_stops ranks lanes most before rest line behind reason some found refused)) (refused_right ranks lanes bytes before rest reason text legal some (refused_for ranks lanes before rest line reason (begins rest line behind found) refused))
    by_reason ranks lanes bytes most before rest text legal some later line behind found None passes =
        let is = line_in_found rest line behind found in
        subst (IsRight ranks lanes bytes) (sym (line_goes_on ranks lanes most before rest line behind some found passes))
        (later (before ++ line ∷ []) behind
        (text ∙ ap (λ l. lines_text before ++ l) is.0 ∙ sym (append_assoc (lines_text before) (schedule_line line.0 line.1) behind) ∙ ap (λ l. l ++ behind) (sym (text_push before line)))
        (legal_push ranks lanes before line legal (passes_for ranks lanes before line passes))
        (omega (arith, ap length is.0, length-append (schedule_line line.0 line.1) behind, line_some line.0 line.1)))

    by_line : (ranks : ℕ) (lanes : List Lane) (bytes : List ℕ) (most : ℕ) (before : List (ℕ × ℕ)) (rest : List ℕ) → bytes ≡ lines_text before ++ rest → AreLegalLines ranks lanes before → 0 < length rest → ((next : List (ℕ × ℕ)) (behind : List ℕ) → bytes ≡ lines_text next ++ behind → AreLegalLines ranks lanes next → length behind < length rest → IsRight ranks lanes bytes (lines_from ranks lanes most next behind)) → (o : Option ((ℕ × ℕ) × List ℕ)) → line_in rest ≡ o → IsRight ranks lanes bytes (lines_from ranks lanes (suc most) before rest)
    by_line ranks lanes bytes most before rest text legal some later None none =
        subst (IsRight ranks lanes bytes) (sym (no_line_stops ranks lanes most before rest some none)) (refused_right ranks lanes bytes before rest why.Form text legal some (begins_not rest none))
    by_line ranks lanes bytes most before rest text legal some later (Some x) found = by_reason ranks lanes bytes most before rest text legal some later x.0 x.1 found (line_refusal ranks lanes before x.0) refl

right : (ranks : ℕ) (lanes : List Lane) (bytes : List ℕ) → IsRight ranks lanes bytes (lines_from ranks lanes (length bytes) [] bytes)
unfolding lines_text
right ranks lanes bytes = right_from ranks lanes bytes (length bytes) [] bytes refl (none_legal ranks lanes) (omega arith)

pub is_schedule : (ranks : ℕ) (lanes : List Lane) (bytes : List ℕ) (orders : List (List ℕ)) → schedule_of ranks lanes bytes ≡ Ok orders → IsScheduleOf ranks lanes bytes orders
unfolding schedule_of IsRight
is_schedule ranks lanes bytes orders e = go (lines_from ranks lanes (length bytes) [] bytes) (right ranks lanes bytes) e
  where
    go : (r : Result (List (ℕ × ℕ)) LineRefusal) → IsRight ranks lanes bytes r → lists_of ranks r ≡ Ok orders → IsScheduleOf ranks lanes bytes orders
    go (Ok lines) is h = record { lines = lines; is_text = is.0; legal = is.1; orders_are = cc }
    go (Err refusal) is h = cc

pub is_legal_schedule : (ranks : ℕ) (lanes : List Lane) (bytes : List ℕ) (orders : List (List ℕ)) → schedule_of ranks lanes bytes ≡ Ok orders → is_legal ranks lanes orders ≡ true
is_legal_schedule ranks lanes bytes orders e = schedule_legal ranks lanes bytes orders (is_schedule ranks lanes bytes orders e)

pub is_refused : (ranks : ℕ) (lanes : List Lane) (bytes : List ℕ) (refusal : LineRefusal) → schedule_of ranks lanes bytes ≡ Err refusal → IsRefusedAt ranks lanes bytes refusal.line refusal.why
unfolding schedule_of IsRight
is_refused ranks lanes bytes refusal e = go (lines_from ranks lanes (length bytes) [] bytes) (right ranks lanes bytes) e
  where
    go : (r : Result (List (ℕ × ℕ)) LineRefusal) → IsRight ranks lanes bytes r → lists_of ranks r ≡ Err refusal → IsRefusedAt ranks lanes bytes refusal.line refusal.why
    go (Ok lines) is h = cc
    go (Err other) is h = let same : other ≡ refusal = cc in subst (λ (x : LineRefusal). IsRefusedAt ranks lanes bytes x.line x.why) same is
