-- What it means that spans partition cells.
use Rattle.std.specs.Prelude.{◌≡◌, ℕ, ◌<◌, ◌↔◌, IsTrue, Some}
use Rattle.mls_model.specs.declared.blocks.Span.{Span}
use Rattle.mls_model.specs.Blocks.{is_in_span, block, part, overlap, rank_of, client_of}
use Rattle.mls_model.specs.Studies.{Sizes, AreSizes}

-- exactly one of the first n spans holds a cell
pub record IsInOne (n : ℕ) (spans : ℕ → Span) (x : ℕ) : Type 0 where
  pub one : ℕ
  pub within : one < n
  pub holds : IsTrue (is_in_span (spans one) x)
  pub only : (i : ℕ) → i < n → IsTrue (is_in_span (spans i) x) → i ≡ one

-- each cell is in exactly one of the first n spans, and they hold nothing else
pub record ArePartition (n : ℕ) (spans : ℕ → Span) (IsCell : ℕ → Type 0) : Type 0 where
  pub once : (x : ℕ) → IsCell x → IsInOne n spans x
  pub inside : (i : ℕ) → i < n → (x : ℕ) → IsTrue (is_in_span (spans i) x) → IsCell x

-- the blocks of the ranks partition the mesh
abbrev pub BlocksPartition : Type 0
BlocksPartition = (s : Sizes) → AreSizes s → ArePartition s.ranks (block s) (λ x. x < s.cells)

-- the parts of the clients partition the mesh
abbrev pub PartsPartition : Type 0
PartsPartition = (s : Sizes) → AreSizes s → ArePartition s.clients (part s) (λ x. x < s.cells)

-- the overlaps of a rank partition its block
abbrev pub OverlapsPartition : Type 0
OverlapsPartition = (s : Sizes) → AreSizes s → (rank : ℕ) → rank < s.ranks → ArePartition s.clients (overlap s rank) (λ x. IsTrue (is_in_span (block s rank) x))

-- a rank holds a cell exactly where it is the rank of the cell
abbrev pub RankHolds : Type 0
RankHolds = (s : Sizes) → AreSizes s → (x rank : ℕ) → (rank_of s x ≡ Some rank) ↔ ((rank < s.ranks) × IsTrue (is_in_span (block s rank) x))

-- a client holds a cell exactly where it is the client of the cell
abbrev pub ClientHolds : Type 0
ClientHolds = (s : Sizes) → AreSizes s → (x client : ℕ) → (client_of s x ≡ Some client) ↔ ((client < s.clients) × IsTrue (is_in_span (part s client) x))

-- the block of a lone rank is the mesh
abbrev pub LoneRank : Type 0
LoneRank = (s : Sizes) → s.ranks ≡ 1 → block s 0 ≡ record { first = 0; end = s.cells }

-- a lone client sends the whole block of each rank
abbrev pub LoneClient : Type 0
LoneClient = (s : Sizes) → AreSizes s → s.clients ≡ 1 → (rank : ℕ) → rank < s.ranks → overlap s rank 0 ≡ block s rank
