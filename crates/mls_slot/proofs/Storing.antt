-- A put from its first step to its last.
use Rattle.std.proofs.Common.{◌≡◌, ◌⊎◌, inl, ℕ, ◌+◌, ◌<◌, false, List, [], ◌∷◌, length, take, drop, Some, ◌∙◌, ap, arith}
use Rattle.std.specs.Int.{w64, from_be_bytes}
use Rattle.mls_slot.specs.Disks.{Areas, View, IsLeft, IsAtRest, Torn, over}
use Rattle.mls_slot.specs.Slots.{head_length, gate, value}
use Rattle.mls_slot.specs.Known.{other, IsHead, AreHeads, IsTarget}
use Rattle.mls_slot.specs.Runs.{LeavesOnly, SameBut, Changed, Settled, Shuts, Stores}
use Rattle.mls_slot.specs.declared.heads.Heads.{Heads}
use Rattle.mls_slot.proofs.Values.{value_same}
use Rattle.mls_slot.proofs.Moments.{one_after}
use Rattle.mls_slot.proofs.Crash.{filling_keeps, spelled, filled, opening_gives, opened_value, opened_head}

-- at rest a crash leaves the value
pub rest_value : (view : View) → IsAtRest view → (image : Areas) → IsLeft view image → value image ≡ value view.seen
rest_value view rest image left =
    let first : 0 < 2 = omega arith in
    let second : 1 < 2 = omega arith in
    value_same image view.seen (rest 0 first (image 0) (left 0 first)) (rest 1 second (image 1) (left 1 second))

-- the value stays, or is what is put
abbrev pub Gives : View → List ℕ → Areas → Type 0
Gives old p image = (value image ≡ value old.seen) ⊎ (value image ≡ Some p)

module _ (old mid : View) (area n : ℕ) (p : List ℕ) (target : IsTarget old.seen area n) (shuts : Shuts area old mid) (shutting : LeavesOnly old mid (λ image. value image ≡ value old.seen)) where
  pub filling : (new : View) → LeavesOnly mid new (Changed area (λ c. take 1 c ≡ take 1 (mid.seen area)) mid.seen) → LeavesOnly old new (Gives old p)
  filling new fills = one_after old mid new (λ image. value image ≡ value old.seen) (Changed area (λ c. take 1 c ≡ take 1 (mid.seen area)) mid.seen) (Gives old p) shutting fills
      (λ image is. inl is)
      (λ image changed. inl (filling_keeps old.seen mid.seen image area n target shuts.stands shuts.shut shuts.elsewhere changed))

  module _ (b : List ℕ) (eight : length b ≡ 8) (codes : from_be_bytes w64 b ≡ length p) (full : View) (settled : Settled area (over (over (mid.seen area) 1 (n ∷ b)) head_length p) mid full) where
    tail : List ℕ
    tail = drop (head_length + length p) (over (mid.seen area) 1 (n ∷ b))

    shape : full.seen area ≡ gate (mid.seen area) ∷ spelled n b p tail
    unfolding tail
    shape = settled.there ∙ filled (mid.seen area) n b p eight shuts.stands

    same : SameBut area old.seen full.seen
    same other o differs = settled.elsewhere other o differs ∙ shuts.elsewhere other o differs

    pub opening : (new : View) → LeavesOnly mid full (Changed area (λ c. take 1 c ≡ take 1 (mid.seen area)) mid.seen) → LeavesOnly full new (Changed area (Torn 0 1 (full.seen area)) full.seen) → LeavesOnly old new (Gives old p)
    opening new fills opens = one_after old full new (Gives old p) (Changed area (Torn 0 1 (full.seen area)) full.seen) (Gives old p) (filling full fills) opens
        (λ image is. is)
        (λ image changed. opening_gives old.seen area n target b p tail eight codes full.seen image (gate (mid.seen area)) shape same changed)

    module _ (new : View) (done : Settled area (over (full.seen area) 0 (1 ∷ [])) full new) where
      is_open : new.seen area ≡ 1 ∷ spelled n b p tail
      is_open = done.there ∙ ap (λ (l : List ℕ). over l 0 (1 ∷ [])) shape

      pub kept : SameBut area old.seen new.seen
      kept other o differs = done.elsewhere other o differs ∙ same other o differs

      pub new_head : IsHead (new.seen area) (record { shut = false; slot = Some (record { number = n; length = length p }) })
      new_head = opened_head old.seen area n target b p tail eight codes (new.seen area) is_open

      pub stored : (known : Heads) → AreHeads new.seen known → Stores p known new
      stored known heads =
          let below : area < 2 = target.below in
          record {
            rest = done.rest;
            heads = heads;
            is = opened_value old.seen area n target b p tail eight codes new.seen is_open (kept (other area) (omega arith) (omega arith));
          }
