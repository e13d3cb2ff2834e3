-- No second answer, and no second content of what was lent, meets the contract of any public function of this crate.
-- Assumes nothing.
use Prim.Native.Nat.{ℕ}
use mathlib.Core.Path.{sym, ap, ◌∙◌}
use mathlib.Core.List.{[], ◌∷◌}
use Rattle.lists.proofs.Once.{OneAnswer, OneContent}
use Rattle.entries_listing.proofs.slavotuk_read_request.Kinds as read-request-kinds
use Rattle.entries_listing.proofs.slavotuk_read_request.Reads as read-request-reads
use Rattle.entries_listing.proofs.slavotuk_read_count.Kinds as read-count-kinds
use Rattle.entries_listing.proofs.slavotuk_read_count.Reads as read-count-reads
use Rattle.entries_listing.proofs.slavotuk_write_request.Kinds as write-request-kinds
use Rattle.entries_listing.proofs.slavotuk_write_request.Reads as write-request-reads
use Rattle.entries_listing.proofs.slavotuk_read_row.Kinds as read-row-kinds
use Rattle.entries_listing.proofs.slavotuk_read_row.Reads as read-row-reads

pub read-request-once : OneAnswer 2 read-request-kinds.ps read-request-kinds.r read-request-reads.Post
read-request-once κs a x y s t p q = p.number_is ∙ sym q.number_is

pub read-request-value : OneContent 2 read-request-kinds.ps read-request-kinds.r read-request-reads.Post (λ κs s. s.1.0.now ∷ [])
read-request-value κs a x y s t p q = ap (λ (n : ℕ). n ∷ []) (p.value-is ∙ sym q.value-is)

pub read-count-once : OneAnswer 2 read-count-kinds.ps read-count-kinds.r read-count-reads.Post
read-count-once κs a x y s t p q = p.number_is ∙ sym q.number_is

pub read-count-value : OneContent 2 read-count-kinds.ps read-count-kinds.r read-count-reads.Post (λ κs s. s.1.0.now ∷ [])
read-count-value κs a x y s t p q = ap (λ (n : ℕ). n ∷ []) (p.value-is ∙ sym q.value-is)

pub write-request-once : OneAnswer 1 write-request-kinds.ps write-request-kinds.r write-request-reads.Post
write-request-once κs a x y s t p q = p.0 ∙ sym q.0

pub write-request-bytes : OneContent 1 write-request-kinds.ps write-request-kinds.r write-request-reads.Post (λ κs s. s.0.now)
write-request-bytes κs a x y s t p q = p.1 ∙ sym q.1

pub read-row-once : OneAnswer 4 read-row-kinds.ps read-row-kinds.r read-row-reads.Post
read-row-once κs a x y s t p q = p.number_is ∙ sym q.number_is

pub read-row-credential : OneContent 4 read-row-kinds.ps read-row-kinds.r read-row-reads.Post (λ κs s. s.1.1.0.now ∷ [])
read-row-credential κs a x y s t p q = ap (λ (n : ℕ). n ∷ []) (p.credential-is ∙ sym q.credential-is)

pub read-row-kind : OneContent 4 read-row-kinds.ps read-row-kinds.r read-row-reads.Post (λ κs s. s.1.1.1.0.now ∷ [])
read-row-kind κs a x y s t p q = ap (λ (n : ℕ). n ∷ []) (p.kind-is ∙ sym q.kind-is)

pub read-row-name : OneContent 4 read-row-kinds.ps read-row-kinds.r read-row-reads.Post (λ κs s. s.1.1.1.1.0.now)
read-row-name κs a x y s t p q = p.name-is ∙ sym q.name-is
