-- No second answer, and no second content of what was lent, meets the contract of any public function of this crate.
-- Assumes nothing.
use Prim.Native.Nat.{ℕ}
use mathlib.Core.Path.{sym, ap, ◌∙◌}
use mathlib.Core.List.{[], ◌∷◌}
use Rattle.lists.proofs.Once.{OneAnswer, OneContent}
use Rattle.entries_protected.proofs.slavotuk_end.Kinds as end-kinds
use Rattle.entries_protected.proofs.slavotuk_end.Reads as end_reads
use Rattle.entries_protected.proofs.slavotuk_record.Kinds as record-kinds
use Rattle.entries_protected.proofs.slavotuk_record.Reads as record-reads
use Rattle.entries_protected.proofs.slavotuk_kill.Kinds as kill-kinds
use Rattle.entries_protected.proofs.slavotuk_kill.Reads as kill-reads
use Rattle.entries_protected.proofs.slavotuk_set_word.Kinds as set-word-kinds
use Rattle.entries_protected.proofs.slavotuk_set_word.Reads as set-word-reads
use Rattle.entries_protected.proofs.slavotuk_list.Kinds as list-kinds
use Rattle.entries_protected.proofs.slavotuk_list.Reads as list-reads

pub end-once : OneAnswer 1 end-kinds.ps end-kinds.r end_reads.Post
end-once κs a x y s t p q = p.number_is ∙ sym q.number_is

pub end-bytes : OneContent 1 end-kinds.ps end-kinds.r end_reads.Post (λ κs s. s.0.now)
end-bytes κs a x y s t p q = p.bytes-are ∙ sym q.bytes-are

pub record-once : OneAnswer 1 record-kinds.ps record-kinds.r record-reads.Post
record-once κs a x y s t p q = p.number_is ∙ sym q.number_is

pub record-bytes : OneContent 1 record-kinds.ps record-kinds.r record-reads.Post (λ κs s. s.0.now)
record-bytes κs a x y s t p q = p.bytes-are ∙ sym q.bytes-are

pub kill-once : OneAnswer 2 kill-kinds.ps kill-kinds.r kill-reads.Post
kill-once κs a x y s t p q = p.number_is ∙ sym q.number_is

pub kill-bytes : OneContent 2 kill-kinds.ps kill-kinds.r kill-reads.Post (λ κs s. s.0.now)
kill-bytes κs a x y s t p q = p.bytes-are ∙ sym q.bytes-are

pub set-word-once : OneAnswer 1 set-word-kinds.ps set-word-kinds.r set-word-reads.Post
set-word-once κs a x y s t p q = p.number_is ∙ sym q.number_is

pub set-word-bytes : OneContent 1 set-word-kinds.ps set-word-kinds.r set-word-reads.Post (λ κs s. s.0.now)
set-word-bytes κs a x y s t p q = p.bytes-are ∙ sym q.bytes-are

pub list-once : OneAnswer 3 list-kinds.ps list-kinds.r list-reads.Post
list-once κs a x y s t p q = p.entry.number_is ∙ sym q.entry.number_is

pub list-bytes : OneContent 3 list-kinds.ps list-kinds.r list-reads.Post (λ κs s. s.0.now)
list-bytes κs a x y s t p q = p.entry.bytes-are ∙ sym q.entry.bytes-are

pub list-response : OneContent 3 list-kinds.ps list-kinds.r list-reads.Post (λ κs s. s.1.1.1.1.1.1.1.1.0.now)
list-response κs a x y s t p q = p.response-is ∙ sym q.response-is

pub list_length : OneContent 3 list-kinds.ps list-kinds.r list-reads.Post (λ κs s. s.1.1.1.1.1.1.1.1.1.0.now ∷ [])
list_length κs a x y s t p q = ap (λ (n : ℕ). n ∷ []) (p.length-is ∙ sym q.length-is)
