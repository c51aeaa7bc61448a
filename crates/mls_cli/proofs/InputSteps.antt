-- Inputs that are loaded one after another, against what is right.
use Rattle.std.proofs.Common.{◌≡◌, ℕ, Bool, true, List, Option, Some, None, Result, Ok, Err, MatchResult, IfErr, refl, ap, sym, ◌∙◌, subst}
use Rattle.mls_base.specs.Told.{Names, MayCease, StaysSound}
use Rattle.mls_result.specs.declared.status.Status.{Status}
use Rattle.mls_cli.specs.declared.refusal.Refusal.{Refusal}
use Rattle.mls_cli.specs.declared.refusal.Refusal.TheVariants as refusal
use Rattle.mls_cli.specs.Inputs.{◌>>=◌}
use Rattle.mls_export.specs.Files.{FileState}
use Rattle.mls_cli.specs.Refusals.{IsRefused, Agrees, Counts, IsOfContent, Leaves, Loads}

-- a refusal of the first step is one of both
pub refused_first : {A B : Type 0} (sound : Bool) (r : Refusal) (right : Result A Status) (next : A → Result B Status) → IsRefused sound r right → IsRefused sound r (right >>= next)
refused_first sound refusal.ReadFault right next is = λ s. ap (λ o. o >>= next) (is s)
refused_first sound refusal.Memory right next is = tt
refused_first sound (refusal.Study fault) right next is = ap (λ o. o >>= next) is
refused_first sound (refusal.Tape at why) right next is = ap (λ o. o >>= next) is
refused_first sound (refusal.Schedule line why) right next is = ap (λ o. o >>= next) is
refused_first sound (refusal.TooLong file) right next is = ap (λ o. o >>= next) is
refused_first sound (refusal.Events line) right next is = ap (λ o. o >>= next) is
refused_first sound refusal.TooLarge right next is = ap (λ o. o >>= next) is
refused_first sound (refusal.OldRanks ranks) right next is = ap (λ o. o >>= next) is
refused_first sound (refusal.CheckpointBad rank at why) right next is = ap (λ o. o >>= next) is
refused_first sound (refusal.MarksDiffer other plane group first_has) right next is = ap (λ o. o >>= next) is

-- what holds of sound files holds of less sound ones
refused_less : {A : Type 0} (more less : Bool) (r : Refusal) (right : Result A Status) → StaysSound less more → IsRefused more r right → IsRefused less r right
refused_less more less refusal.ReadFault right stays is = λ s. is (stays s)
refused_less more less refusal.Memory right stays is = tt
refused_less more less (refusal.Study fault) right stays is = is
refused_less more less (refusal.Tape at why) right stays is = is
refused_less more less (refusal.Schedule line why) right stays is = is
refused_less more less (refusal.TooLong file) right stays is = is
refused_less more less (refusal.Events line) right stays is = is
refused_less more less refusal.TooLarge right stays is = is
refused_less more less (refusal.OldRanks ranks) right stays is = is
refused_less more less (refusal.CheckpointBad rank at why) right stays is = is
refused_less more less (refusal.MarksDiffer other plane group first_has) right stays is = is

agrees_less : {A B : Type 0} (more less : Bool) (view : A → B) (result : Result A Refusal) (right : Result B Status) → StaysSound less more → Agrees more view result right → Agrees less view result right
agrees_less more less view (Ok x) right stays is = is
agrees_less more less view (Err r) right stays is = refused_less more less r right stays is

-- what the second step answers is right for both
pub agrees_second : {A B C : Type 0} (sound : Bool) (view : C → B) (result : Result C Refusal) (right : Result A Status) (x : A) (next : A → Result B Status) → right ≡ Ok x → Agrees sound view result (next x) → Agrees sound view result (right >>= next)
agrees_second {A} sound view result right x next first second =
    let P : Result A Status → Type 0 = λ o. Agrees sound view result (o >>= next) in
    subst P (sym first) second

-- a refusal that is no failed read leaves the count of failed loads
content_counts : (r : Refusal) (before now : ℕ) → IsOfContent r → now ≡ before → Counts r before now
content_counts refusal.ReadFault before now is same = absurd is
content_counts refusal.Memory before now is same = same
content_counts (refusal.Study fault) before now is same = same
content_counts (refusal.Tape at why) before now is same = same
content_counts (refusal.Schedule line why) before now is same = same
content_counts (refusal.TooLong file) before now is same = same
content_counts (refusal.Events line) before now is same = same
content_counts refusal.TooLarge before now is same = same
content_counts (refusal.OldRanks ranks) before now is same = same
content_counts (refusal.CheckpointBad rank at why) before now is same = same
content_counts (refusal.MarksDiffer other plane group first_has) before now is same = same

-- what is told as before may be told no more
may_cease : {A : Type 0} (old new : Option A) → new ≡ old → MayCease old new
may_cease old None same = tt
may_cease old (Some x) same = sym same

leaves_same : {A : Type 0} (r : Refusal) (old new : Option A) → new ≡ old → Leaves r old new
leaves_same refusal.ReadFault old new same = may_cease old new same
leaves_same refusal.Memory old new same = same
leaves_same (refusal.Study fault) old new same = same
leaves_same (refusal.Tape at why) old new same = same
leaves_same (refusal.Schedule line why) old new same = same
leaves_same (refusal.TooLong file) old new same = same
leaves_same (refusal.Events line) old new same = same
leaves_same refusal.TooLarge old new same = same
leaves_same (refusal.OldRanks ranks) old new same = same
leaves_same (refusal.CheckpointBad rank at why) old new same = same
leaves_same (refusal.MarksDiffer other plane group first_has) old new same = same

kept : {A B : Type 0} (result : Result A Refusal) (old new : Option B) → new ≡ old → MatchResult result (λ _. new ≡ old) (λ r. Leaves r old new)
kept (Ok x) old new same = same
kept (Err r) old new same = leaves_same r old new same

kept_on : {A B : Type 0} (result : Result A Refusal) (first second now : Option B) → second ≡ first → MatchResult result (λ _. now ≡ second) (λ r. Leaves r second now) → MatchResult result (λ _. now ≡ first) (λ r. Leaves r first now)
kept_on {A} {B} result first second now same h = subst (λ (o : Option B). MatchResult result (λ _. now ≡ o) (λ r. Leaves r o now)) same h

counted : {A : Type 0} (result : Result A Refusal) (before now : ℕ) → now ≡ before → IfErr result IsOfContent → MatchResult result (λ _. now ≡ before) (λ r. Counts r before now)
counted (Ok x) before now same is = same
counted (Err r) before now same is = content_counts r before now is same

counted_on : {A : Type 0} (result : Result A Refusal) (first second now : ℕ) → second ≡ first → MatchResult result (λ _. now ≡ second) (λ r. Counts r second now) → MatchResult result (λ _. now ≡ first) (λ r. Counts r first now)
counted_on result first second now same h = subst (λ (n : ℕ). MatchResult result (λ _. now ≡ n) (λ r. Counts r n now)) same h

-- bytes that were loaded, and what is read in them
pub content_of : {A B : Type 0} (bytes : List ℕ) (view : A → B) (asked : Names → Result (List ℕ) Status) (next : List ℕ → Result B Status) (old new : FileState) (result : Result A Refusal)
    → ((held : Names) → old.held ≡ Some held → asked held ≡ Ok bytes) → new.held ≡ old.held → StaysSound old.sound new.sound → new.load_faults ≡ old.load_faults → new.save_faults ≡ old.save_faults
    → Agrees true view result (next bytes) → IfErr result IsOfContent → Loads view (λ held. asked held >>= next) old new result
content_of bytes view asked next old new result first same sound loads saves second content = record {
  right = λ held told. agrees_second old.sound view result (asked held) bytes next (first held told) (agrees_less true old.sound view result (next bytes) (λ s. refl) second);
  same = kept result old.held new.held same;
  sound = sound;
  loads = counted result old.load_faults new.load_faults loads content;
  saves = saves;
}

-- the first step is refused
pub loads_refused : {A B C D : Type 0} (first : A → B) (view : C → D) (asked : Names → Result B Status) (next : Names → B → Result D Status) (old new : FileState) (r : Refusal)
    → Loads first asked old new (Err r) → Loads view (λ held. asked held >>= next held) old new (Err r)
loads_refused first view asked next old new r h = record {
  right = λ held told. refused_first old.sound r (asked held) (next held) (h.right held told);
  same = h.same;
  sound = h.sound;
  loads = h.loads;
  saves = h.saves;
}

-- one step after another
pub loads_then : {A B C D : Type 0} (first : A → B) (view : C → D) (asked : Names → Result B Status) (next : Names → B → Result D Status) (old between new : FileState) (x : A) (result : Result C Refusal)
    → Loads first asked old between (Ok x) → Loads view (λ held. next held (first x)) between new result → Loads view (λ held. asked held >>= next held) old new result
loads_then first view asked next old between new x result h k = record {
  right = λ held told. agrees_second old.sound view result (asked held) (first x) (next held) (h.right held told) (agrees_less between.sound old.sound view result (next held (first x)) h.sound (k.right held (h.same ∙ told)));
  same = kept_on result old.held between.held new.held h.same k.same;
  sound = λ s. k.sound (h.sound s);
  loads = counted_on result old.load_faults between.load_faults new.load_faults h.loads k.loads;
  saves = k.saves ∙ h.saves;
}

-- nothing is loaded
pub loads_nothing : {A B : Type 0} (view : A → B) (right : Result B Status) (files : FileState) (result : Result A Refusal) → Agrees true view result right → IfErr result IsOfContent → Loads view (λ held. right) files files result
loads_nothing view right files result is content = record {
  right = λ held told. agrees_less true files.sound view result right (λ s. refl) is;
  same = kept result files.held files.held refl;
  sound = λ s. s;
  loads = counted result files.load_faults files.load_faults refl content;
  saves = refl;
}

-- what was loaded gives what is asked for
pub loads_as : {A B C D : Type 0} (first : A → B) (view : C → D) (asked : Names → Result B Status) (make : B → D) (old new : FileState) (x : A) (y : C) → make (first x) ≡ view y → Loads first asked old new (Ok x) → Loads view (λ held. asked held >>= (λ b. Ok (make b))) old new (Ok y)
loads_as first view asked make old new x y is h = record {
  right = λ held told. ap (λ o. o >>= (λ b. Ok (make b))) (h.right held told) ∙ ap Ok is;
  same = h.same;
  sound = h.sound;
  loads = h.loads;
  saves = h.saves;
}
