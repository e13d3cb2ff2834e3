-- No second answer, and no second content of what was lent, meets the contract of any public function of this crate.
-- Assumes nothing.
use Prim.Native.Nat.{ℕ}
use mathlib.Core.Path.{sym, ap, ◌∙◌}
use mathlib.Core.List.{[], ◌∷◌}
use Rattle.lists.proofs.Once.{OneAnswer, OneContent}
use Rattle.entries_image.proofs.slavotuk_image.Kinds as image-kinds
use Rattle.entries_image.proofs.slavotuk_image.Reads as image-reads
use Rattle.entries_image.proofs.slavotuk_rescue.Kinds as rescue-kinds
use Rattle.entries_image.proofs.slavotuk_rescue.Reads as rescue-reads
use Rattle.entries_image.proofs.slavotuk_restore.Kinds as restore-kinds
use Rattle.entries_image.proofs.slavotuk_restore.Reads as restore-reads

pub image-once : OneAnswer 3 image-kinds.ps image-kinds.r image-reads.Post
image-once κs a x y s t p q = p.number_is ∙ sym q.number_is

pub image-bytes : OneContent 3 image-kinds.ps image-kinds.r image-reads.Post (λ κs s. s.1.0.now)
image-bytes κs a x y s t p q = p.image-is ∙ sym q.image-is

pub image-length : OneContent 3 image-kinds.ps image-kinds.r image-reads.Post (λ κs s. s.1.1.0.now ∷ [])
image-length κs a x y s t p q = ap (λ (n : ℕ). n ∷ []) (p.length-is ∙ sym q.length-is)

pub restore-once : OneAnswer 2 restore-kinds.ps restore-kinds.r restore-reads.Post
restore-once κs a x y s t p q = p.number_is ∙ sym q.number_is

pub restore-bytes : OneContent 2 restore-kinds.ps restore-kinds.r restore-reads.Post (λ κs s. s.0.now)
restore-bytes κs a x y s t p q = p.bytes-are ∙ sym q.bytes-are

pub rescue-once : OneAnswer 6 rescue-kinds.ps rescue-kinds.r rescue-reads.Post
rescue-once κs a x y s t p q = p.number_is ∙ sym q.number_is

pub rescue-bytes : OneContent 6 rescue-kinds.ps rescue-kinds.r rescue-reads.Post (λ κs s. s.1.0.now)
rescue-bytes κs a x y s t p q = p.image-is ∙ sym q.image-is

pub rescue-length : OneContent 6 rescue-kinds.ps rescue-kinds.r rescue-reads.Post (λ κs s. s.1.1.0.now ∷ [])
rescue-length κs a x y s t p q = ap (λ (n : ℕ). n ∷ []) (p.length-is ∙ sym q.length-is)

pub rescue-cleared : OneContent 6 rescue-kinds.ps rescue-kinds.r rescue-reads.Post (λ κs s. s.1.1.1.0.now ∷ [])
rescue-cleared κs a x y s t p q = ap (λ (n : ℕ). n ∷ []) (p.cleared-is ∙ sym q.cleared-is)

pub rescue-kept : OneContent 6 rescue-kinds.ps rescue-kinds.r rescue-reads.Post (λ κs s. s.1.1.1.1.0.now ∷ [])
rescue-kept κs a x y s t p q = ap (λ (n : ℕ). n ∷ []) (p.kept-is ∙ sym q.kept-is)

pub rescue-dropped : OneContent 6 rescue-kinds.ps rescue-kinds.r rescue-reads.Post (λ κs s. s.1.1.1.1.1.0.now ∷ [])
rescue-dropped κs a x y s t p q = ap (λ (n : ℕ). n ∷ []) (p.dropped-is ∙ sym q.dropped-is)
