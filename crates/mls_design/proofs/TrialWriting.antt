-- Frames that are written one after another.
use Rattle.std.proofs.Common.{◌≡◌, ℕ, ◌+◌, ◌/◌, cond, true, false, Result, Ok, Err, OnOk, List, [], ◌∷◌, ◌++◌, map, replicate, refl, sym, ◌∙◌, ap, subst, arith, append_assoc}
use Rattle.std.specs.List.{flat_map}
use Rattle.std.proofs.lemmas.List.{replicate_more}
use Rattle.std.proofs.lemmas.List.{append-nil}
use Rattle.rand_pcg.specs.Lcg.{Lcg}
use Rattle.mls_model.specs.Numbers.{below}
use Rattle.mls_model.specs.Frames.{Frame, piece, beat, spelling}
use Rattle.mls_model.specs.Designs.{word, solved_piece}
use Rattle.mls_design.specs.declared.trial.route.Route.{Route}
use Rattle.mls_model.specs.Studies.{Study}
use Rattle.mls_design.specs.Trial.{is_piece, piece_count, copies, sent, frame_bytes, life_pieces, life_frames, group_frames, is_restarted}
use Rattle.mls_design.specs.TrialSizes.{HasDrawn}
use Rattle.mls_design.specs.TrialWriting.{Sends}
use Rattle.mls_design.proofs.Counting.{map-below_more, flat_map-below_more}
use Rattle.mls_design.proofs.TrialFrames.{pieces-append, pieces-cons, sent_none, sent_one, sent_append, bytes-append}

-- nothing is written of nothing
pub sends_none : (number n : ℕ) (old : List ℕ) (g : Lcg) → HasDrawn number n g → Sends number n [] old old g
sends_none number n old g h =
    let same : n ≡ n + 0 = omega arith in
    record {
      bytes = sym (ap (λ fs. old ++ frame_bytes fs) (sent_none number n) ∙ append-nil old);
      words = subst (λ m. HasDrawn number m g) same h;
    }

-- one list after another
pub sends_then : (number n : ℕ) (xs ys : List Frame) (old mid new : List ℕ) (g h : Lcg) → Sends number n xs old mid g → Sends number (n + piece_count xs) ys mid new h → Sends number n (xs ++ ys) old new h
sends_then number n xs ys old mid new g h first second =
    let m : ℕ = n + piece_count xs in
    let place : m + piece_count ys ≡ n + piece_count (xs ++ ys) = omega (arith, pieces-append xs ys) in
    record {
      bytes = second.bytes ∙ ap (λ b. b ++ frame_bytes (sent number m ys)) first.bytes
          ∙ append_assoc old (frame_bytes (sent number n xs)) (frame_bytes (sent number m ys))
          ∙ ap (λ b. old ++ b) (sym (bytes-append (sent number n xs) (sent number m ys)) ∙ ap frame_bytes (sym (sent_append number n xs ys)));
      words = subst (λ k. HasDrawn number k h) place second.words;
    }

-- a planned piece takes the next word
pub sends_piece : (number n : ℕ) (x : Frame) (old new : List ℕ) (g : Lcg) (k : ℕ) → is_piece x ≡ true → k ≡ copies (word number n) → new ≡ old ++ frame_bytes (replicate k x) → HasDrawn number (n + 1) g → Sends number n (x ∷ []) old new g
sends_piece number n x old new g k is times bytes h =
    let one : n + 1 ≡ n + piece_count (x ∷ []) = omega (arith, pieces-cons x [] ∙ ap (λ b. cond b 1 0 + 0) is) in
    let all : sent number n (x ∷ []) ≡ replicate k x = sent_one number n x ∙ ap (λ b. cond b (replicate (copies (word number n)) x) (x ∷ [])) is ∙ ap (λ m. replicate m x) (sym times) in
    record {
      bytes = bytes ∙ ap (λ fs. old ++ frame_bytes fs) (sym all);
      words = subst (λ m. HasDrawn number m g) one h;
    }

-- a beat takes none
pub sends_beat : (number n group life : ℕ) (old new : List ℕ) (g : Lcg) → new ≡ old ++ spelling (beat group life) → HasDrawn number n g → Sends number n (beat group life ∷ []) old new g
sends_beat number n group life old new g bytes h =
    let same : n ≡ n + piece_count (beat group life ∷ []) = omega (arith, pieces-cons (beat group life) []) in
    record {
      bytes = bytes ∙ ap (λ b. old ++ b) (sym (append-nil (spelling (beat group life)))) ∙ ap (λ fs. old ++ frame_bytes fs) (sym (sent_one number n (beat group life)));
      words = subst (λ m. HasDrawn number m g) same h;
    }

-- what is made of one number more
pub sends_map : (number n k : ℕ) (f : ℕ → Frame) (old mid new : List ℕ) (g h : Lcg) → Sends number n (map f (below k)) old mid g → Sends number (n + piece_count (map f (below k))) (f k ∷ []) mid new h → Sends number n (map f (below (k + 1))) old new h
sends_map number n k f old mid new g h first second = subst (λ fs. Sends number n fs old new h) (sym (map-below_more f k)) (sends_then number n (map f (below k)) (f k ∷ []) old mid new g h first second)

pub sends_lists : (number n k : ℕ) (f : ℕ → List Frame) (old mid new : List ℕ) (g h : Lcg) → Sends number n (flat_map f (below k)) old mid g → Sends number (n + piece_count (flat_map f (below k))) (f k) mid new h → Sends number n (flat_map f (below (k + 1))) old new h
sends_lists number n k f old mid new g h first second = subst (λ fs. Sends number n fs old new h) (sym (flat_map-below_more f k)) (sends_then number n (flat_map f (below k)) (f k) old mid new g h first second)

-- frames that are each written once
pub bytes_more : (f : ℕ → List Frame) (k : ℕ) (old now new : List ℕ) → now ≡ old ++ frame_bytes (flat_map f (below k)) → new ≡ now ++ frame_bytes (f k) → new ≡ old ++ frame_bytes (flat_map f (below (k + 1)))
bytes_more f k old now new so_far step =
    step ∙ ap (λ b. b ++ frame_bytes (f k)) so_far ∙ append_assoc old (frame_bytes (flat_map f (below k))) (frame_bytes (f k))
    ∙ ap (λ b. old ++ b) (sym (bytes-append (flat_map f (below k)) (f k)) ∙ ap frame_bytes (sym (flat_map-below_more f k)))

-- one step more of a life
pub life_more : (study : Study) (r : Route) (group life k : ℕ) → life_pieces study r group life (k + 1) ≡ life_pieces study r group life k ++ map (λ field. piece (solved_piece study group life k field r.rank r.client)) (below study.sizes.fields)
unfolding life_pieces
life_more study r group life k = flat_map-below_more (λ step. map (λ field. piece (solved_piece study group life step field r.rank r.client)) (below study.sizes.fields)) k

pub life_none : (study : Study) (r : Route) (group life : ℕ) → life_pieces study r group life 0 ≡ []
unfolding life_pieces
life_none study r group life = refl

pub sends_life : (study : Study) (r : Route) (number n group life k : ℕ) (old mid new : List ℕ) (g h : Lcg) → Sends number n (beat group life ∷ life_pieces study r group life k) old mid g → Sends number (n + piece_count (beat group life ∷ life_pieces study r group life k)) (map (λ field. piece (solved_piece study group life k field r.rank r.client)) (below study.sizes.fields)) mid new h → Sends number n (beat group life ∷ life_pieces study r group life (k + 1)) old new h
sends_life study r number n group life k old mid new g h first second =
    subst (λ fs. Sends number n (beat group life ∷ fs) old new h) (sym (life_more study r group life k))
    (sends_then number n (beat group life ∷ life_pieces study r group life k) (map (λ field. piece (solved_piece study group life k field r.rank r.client)) (below study.sizes.fields)) old mid new g h first second)

pub whole_life_more : (study : Study) (r : Route) (group k : ℕ) (old now new : List ℕ) → now ≡ old ++ frame_bytes (life_pieces study r group 3 k) → new ≡ now ++ frame_bytes (map (λ field. piece (solved_piece study group 3 k field r.rank r.client)) (below study.sizes.fields)) → new ≡ old ++ frame_bytes (life_pieces study r group 3 (k + 1))
whole_life_more study r group k old now new so_far step =
    let own : List Frame = map (λ field. piece (solved_piece study group 3 k field r.rank r.client)) (below study.sizes.fields) in
    step ∙ ap (λ b. b ++ frame_bytes own) so_far ∙ append_assoc old (frame_bytes (life_pieces study r group 3 k)) (frame_bytes own)
    ∙ ap (λ b. old ++ b) (sym (bytes-append (life_pieces study r group 3 k) own) ∙ ap frame_bytes (sym (life_more study r group 3 k)))

-- what follows from what stands after an Ok
pub on_ok : {A E : Type 0} (r : Result A E) (P Q : Type 0) → (P → Q) → OnOk r P → OnOk r Q
on_ok (Ok x) P Q f h = f h
on_ok (Err e) P Q f h = tt

-- one copy more
pub copy_more : (k : ℕ) (x : Frame) (old now new : List ℕ) → now ≡ old ++ frame_bytes (replicate k x) → new ≡ now ++ spelling x → new ≡ old ++ frame_bytes (replicate (k + 1) x)
copy_more k x old now new so_far step =
    step ∙ ap (λ b. b ++ spelling x) so_far ∙ append_assoc old (frame_bytes (replicate k x)) (spelling x)
    ∙ ap (λ b. old ++ (frame_bytes (replicate k x) ++ b)) (sym (append-nil (spelling x)))
    ∙ ap (λ b. old ++ b) (sym (bytes-append (replicate k x) (x ∷ [])) ∙ ap frame_bytes (replicate_more k x))

-- what a group plans to send, by whether it is restarted
pub group_again : (study : Study) (number : ℕ) (r : Route) (group : ℕ) → is_restarted number group ≡ true → group_frames study number r group ≡ life_frames study r group 1 (study.sizes.steps / 2) ++ life_frames study r group 2 study.sizes.steps
unfolding group_frames
group_again study number r group is = ap (λ b. cond b (life_frames study r group 1 (study.sizes.steps / 2) ++ life_frames study r group 2 study.sizes.steps) (life_frames study r group 1 study.sizes.steps)) is

pub group_once : (study : Study) (number : ℕ) (r : Route) (group : ℕ) → is_restarted number group ≡ false → group_frames study number r group ≡ life_frames study r group 1 study.sizes.steps
unfolding group_frames
group_once study number r group is = ap (λ b. cond b (life_frames study r group 1 (study.sizes.steps / 2) ++ life_frames study r group 2 study.sizes.steps) (life_frames study r group 1 study.sizes.steps)) is

pub life_is : (study : Study) (r : Route) (group life steps : ℕ) → beat group life ∷ life_pieces study r group life steps ≡ life_frames study r group life steps
unfolding life_frames
life_is study r group life steps = refl

pub bytes_map : (f : ℕ → Frame) (k : ℕ) (old now new : List ℕ) → now ≡ old ++ frame_bytes (map f (below k)) → new ≡ now ++ frame_bytes (f k ∷ []) → new ≡ old ++ frame_bytes (map f (below (k + 1)))
bytes_map f k old now new so_far step =
    step ∙ ap (λ b. b ++ frame_bytes (f k ∷ [])) so_far ∙ append_assoc old (frame_bytes (map f (below k))) (frame_bytes (f k ∷ []))
    ∙ ap (λ b. old ++ b) (sym (bytes-append (map f (below k)) (f k ∷ [])) ∙ ap frame_bytes (sym (map-below_more f k)))
