-- What is written and read on a pair's link, step by step.
use Rattle.std.proofs.Common.{◌≡◌, ℕ, Bool, List, [], ◌++◌, take, Option, Some, None, IfSome, refl, sym, ◌∙◌, ap, subst, append_assoc, append-nil}
use Rattle.mls_base.specs.Told.{MayCease}
use Rattle.mls_base.proofs.Told.{MayCease-same}
use Rattle.mls_wire.specs.Links.{Talk, after_read, after_write, SentFront}
use Rattle.mls_wire.specs.Sessions.{reply_in}
use Rattle.mls_wire.specs.declared.reply.Reply.{Reply}
use Rattle.mls_wire.specs.declared.reply.Reply.TheVariants as replies
use Rattle.mls_wire.proofs.Sent.{write-write}
use Rattle.mls_group.specs.Faults.{stopped, SureStop, SurePair}
use Rattle.mls_group.specs.Hearing.{Heard, HeardNothing, StopHeard}
use Rattle.mls_group.specs.Pairs.{IsWelcome, IsFront, MayWrite, PairSent, PairCut, PairLeft}
use Rattle.mls_group.specs.declared.faults.Stop.{Stop}
use Rattle.mls_group.specs.declared.faults.Stop.TheVariants as stop
use Rattle.mls_group.proofs.Reading.{says_nothing, read-nothing}

-- a read and a write change different parts
read-write : (n : ℕ) (text : List ℕ) (old : Option Talk) → after_read n (after_write text old) ≡ after_write text (after_read n old)
read-write n text None = refl
read-write n text (Some old) = refl

module _ (hello welcomed : List ℕ) where
  may_zero : (front : List ℕ) (old : Option Talk) → IsFront front hello → IfSome old (λ talk. MayWrite (reply_in (take 0 talk.left)) front hello (hello ++ welcomed))
  may_zero front None is = tt
  may_zero front (Some talk) is = subst (λ (r : Option Reply). MayWrite r front hello (hello ++ welcomed)) says_nothing is

  -- a front of Hello
  cut_hello : (old new : Option Talk) → SentFront old new hello → PairCut hello (hello ++ welcomed) old new
  cut_hello old new s = record {
    cut = after_write s.front old;
    part = record {
      read = 0;
      front = s.front;
      is_front = record { rest = s.rest ++ welcomed; is_text = sym (append_assoc s.front s.rest welcomed) ∙ ap (λ xs. xs ++ welcomed) s.is_text };
      told = ap (λ o. after_write s.front o) (sym (read-nothing old));
      may = may_zero s.front old (record { rest = s.rest; is_text = s.is_text });
    };
    ceased = s.written;
  }

  pub hello_stop : (why : Stop) (old new : Option Talk) → SentFront old new hello → PairLeft (stopped why) hello (hello ++ welcomed) old new
  hello_stop stop.Link old new s = cut_hello old new s
  hello_stop stop.Memory old new s = cut_hello old new s

  may_hear : (read : ℕ) (old : Option Talk) → IfSome (after_write hello old) (λ talk. reply_in (take read talk.left) ≡ None) → IfSome old (λ talk. MayWrite (reply_in (take read talk.left)) hello hello (hello ++ welcomed))
  may_hear read None says = tt
  may_hear read (Some talk) says = subst (λ (r : Option Reply). MayWrite r hello hello (hello ++ welcomed)) (sym says) (record { rest = []; is_text = append-nil hello })

  -- Hello, and nothing was heard
  cut_hearing : (old mid heard new : Option Talk) → mid ≡ after_write hello old → HeardNothing mid heard → MayCease heard new → PairCut hello (hello ++ welcomed) old new
  cut_hearing old mid heard new wrote h ceased =
      let P : Option Talk → Type 0 = λ o. IfSome o (λ talk. reply_in (take h.read talk.left) ≡ None) in
      record {
        cut = heard;
        part = record {
          read = h.read;
          front = hello;
          is_front = record { rest = welcomed; is_text = refl };
          told = h.told ∙ ap (λ o. after_read h.read o) wrote ∙ read-write h.read hello old;
          may = may_hear h.read old (subst P wrote h.says);
        };
        ceased = ceased;
      }

  pub hear_stop : (why : Stop) (old mid new : Option Talk) → mid ≡ after_write hello old → StopHeard why mid new → PairLeft (stopped why) hello (hello ++ welcomed) old new
  hear_stop stop.Link old mid new wrote h = cut_hearing old mid h.0 new wrote h.1 h.2
  hear_stop stop.Memory old mid new wrote h = cut_hearing old mid new new wrote h (MayCease-same new)

  may_welcome : (lane read : ℕ) (front : List ℕ) (old : Option Talk) → IsFront front (hello ++ welcomed) → IfSome (after_write hello old) (λ talk. reply_in (take read talk.left) ≡ Some (replies.Welcome lane)) → IfSome old (λ talk. MayWrite (reply_in (take read talk.left)) front hello (hello ++ welcomed))
  may_welcome lane read front None is says = tt
  may_welcome lane read front (Some talk) is says = subst (λ (r : Option Reply). MayWrite r front hello (hello ++ welcomed)) (sym says) is

  -- what is told after Hello, the answer and a text
  told_after : (text : List ℕ) (reply : Option Reply) (old mid heard : Option Talk) → mid ≡ after_write hello old → (h : Heard reply mid heard) → after_write text heard ≡ after_write (hello ++ text) (after_read h.read old)
  told_after text reply old mid heard wrote h =
      ap (λ o. after_write text o) (h.told ∙ ap (λ o. after_read h.read o) wrote ∙ read-write h.read hello old)
      ∙ write-write (after_read h.read old) hello text

  -- a front of what follows the Welcome
  cut_welcomed : (lane : ℕ) (old mid heard new : Option Talk) → mid ≡ after_write hello old → Heard (Some (replies.Welcome lane)) mid heard → SentFront heard new welcomed → PairCut hello (hello ++ welcomed) old new
  cut_welcomed lane old mid heard new wrote h s =
      let P : Option Talk → Type 0 = λ o. IfSome o (λ talk. reply_in (take h.read talk.left) ≡ Some (replies.Welcome lane)) in
      let is : IsFront (hello ++ s.front) (hello ++ welcomed) = record { rest = s.rest; is_text = append_assoc hello s.front s.rest ∙ ap (λ xs. hello ++ xs) s.is_text } in
      record {
        cut = after_write s.front heard;
        part = record {
          read = h.read;
          front = hello ++ s.front;
          is_front = is;
          told = told_after s.front (Some (replies.Welcome lane)) old mid heard wrote h;
          may = may_welcome lane h.read (hello ++ s.front) old is (subst P wrote h.says);
        };
        ceased = s.written;
      }

  pub welcomed_stop : (why : Stop) (lane : ℕ) (old mid heard new : Option Talk) → mid ≡ after_write hello old → Heard (Some (replies.Welcome lane)) mid heard → SentFront heard new welcomed → PairLeft (stopped why) hello (hello ++ welcomed) old new
  welcomed_stop stop.Link lane old mid heard new wrote h s = cut_welcomed lane old mid heard new wrote h s
  welcomed_stop stop.Memory lane old mid heard new wrote h s = cut_welcomed lane old mid heard new wrote h s

  is_welcome : (lane read : ℕ) (old : Option Talk) → IfSome (after_write hello old) (λ talk. reply_in (take read talk.left) ≡ Some (replies.Welcome lane)) → IfSome old (λ talk. IsWelcome (reply_in (take read talk.left)))
  is_welcome lane read None says = tt
  is_welcome lane read (Some talk) says = subst (λ (r : Option Reply). IsWelcome r) (sym says) tt

  -- the whole session
  pub pair_sent : (lane : ℕ) (old mid heard new : Option Talk) → mid ≡ after_write hello old → Heard (Some (replies.Welcome lane)) mid heard → new ≡ after_write welcomed heard → PairSent (hello ++ welcomed) old new
  pair_sent lane old mid heard new wrote h all =
      let P : Option Talk → Type 0 = λ o. IfSome o (λ talk. reply_in (take h.read talk.left) ≡ Some (replies.Welcome lane)) in
      record {
        read = h.read;
        told = all ∙ told_after welcomed (Some (replies.Welcome lane)) old mid heard wrote h;
        welcome = is_welcome lane h.read old (subst P wrote h.says);
      }

-- a link that takes the whole session for sure
pub pair_sure : (why : Stop) (sound : Bool) (sure size : ℕ) → SureStop why sure size → SurePair (stopped why) sound sure size
pair_sure stop.Link sound sure size less = λ _. less
pair_sure stop.Memory sound sure size less = tt
