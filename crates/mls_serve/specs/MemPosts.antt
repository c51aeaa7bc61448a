-- What a post in memory holds, and what it tells.
use Rattle.std.specs.Prelude.{◌≡◌, ℕ, Bool, true, false, List, [], map}
use Rattle.std.specs.List.{flat_map}
use Rattle.mls_model.specs.Frames.{spelling}
use Rattle.mls_frame.specs.Owned.{owned_frame}
use Rattle.mls_book.specs.declared.faults.BookFault.{BookFault}
use Rattle.mls_book.specs.declared.faults.BookFault.TheVariants as faults
use Rattle.mls_serve.specs.Posts.{Posted, offered, noted}
use Rattle.mls_serve.specs.declared.mem_post.MemPosted.{MemPosted}
use Rattle.mls_serve.specs.declared.mem_post.MemPosted.TheVariants as mem

-- what was posted
abbrev pub posted_of : MemPosted → Posted
posted_of (mem.Offered rank lane kind frame) = offered rank lane kind (owned_frame frame)
posted_of (mem.Noted note) = noted note

abbrev pub posts_of : List MemPosted → List Posted
posts_of posts = map posted_of posts

-- the spelling of the frame that was offered
abbrev pub spelled_of : Posted → List ℕ
spelled_of (offered rank lane kind frame) = spelling frame
spelled_of (noted note) = []

-- the joined spellings of the frames that were offered
abbrev pub spelled : List Posted → List ℕ
spelled posts = flat_map spelled_of posts

-- an offer answers a store fault exactly where it is to fail
abbrev pub FailsAsDue : BookFault → Bool → Type 0
FailsAsDue faults.KeeperFault due = due ≡ true
FailsAsDue (faults.CheckpointBad at why) due = ⊥
FailsAsDue faults.Memory due = due ≡ false
