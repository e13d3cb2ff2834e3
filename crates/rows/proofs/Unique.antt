-- No second answer meets the contract of any public function of this crate, and no second content of the buffer that was lent.
-- Assumes nothing.
use mathlib.Core.Path.{sym, ◌∙◌}
use Rattle.lists.proofs.Once.{OneView, OneAnswer, OneContent}
use Rattle.rows.proofs.byte_of.Kinds as byte-of-kinds
use Rattle.rows.proofs.byte_of.Reads as byte_of
use Rattle.rows.proofs.byte_at.Kinds as byte-at-kinds
use Rattle.rows.proofs.byte_at.Reads as byte_at
use Rattle.rows.proofs.number16.Kinds as number16-kinds
use Rattle.rows.proofs.number16.Reads as number16
use Rattle.rows.proofs.number32.Kinds as number32-kinds
use Rattle.rows.proofs.number32.Reads as number32
use Rattle.rows.proofs.put_number16.Kinds as put-number16-kinds
use Rattle.rows.proofs.put_number16.Reads as put-number16
use Rattle.rows.proofs.put_number32.Kinds as put-number32-kinds
use Rattle.rows.proofs.put_number32.Reads as put-number32
use Rattle.rows.proofs.number_at.Kinds as number-at-kinds
use Rattle.rows.proofs.number_at.Reads as number_at
use Rattle.rows.proofs.put_number.Kinds as put-number-kinds
use Rattle.rows.proofs.put_number.Reads as put-number
use Rattle.rows.proofs.put_bytes.Kinds as put-bytes-kinds
use Rattle.rows.proofs.put_bytes.Reads as put-bytes
use Rattle.rows.proofs.bytes_from.Kinds as bytes-from-kinds
use Rattle.rows.proofs.bytes_from.Reads as bytes-from

pub byte-of-once : OneAnswer 0 byte-of-kinds.ps byte-of-kinds.r byte_of.Post
byte-of-once κs a x y s t p q = p ∙ sym q

pub byte-at-once : OneAnswer 1 byte-at-kinds.ps byte-at-kinds.r byte_at.Post
byte-at-once κs a x y s t p q = p ∙ sym q

pub number16-once : OneAnswer 1 number16-kinds.ps number16-kinds.r number16.Post
number16-once κs a x y s t p q = p ∙ sym q

pub number32-once : OneAnswer 1 number32-kinds.ps number32-kinds.r number32.Post
number32-once κs a x y s t p q = p ∙ sym q

pub put-number16-once : OneContent 1 put-number16-kinds.ps put-number16-kinds.r put-number16.Post (λ κs s. s.0.now)
put-number16-once κs a x y s t p q = p ∙ sym q

pub put-number32-once : OneContent 1 put-number32-kinds.ps put-number32-kinds.r put-number32.Post (λ κs s. s.0.now)
put-number32-once κs a x y s t p q = p ∙ sym q

pub number-at-once : OneAnswer 1 number-at-kinds.ps number-at-kinds.r number_at.Post
number-at-once κs a x y s t p q = p ∙ sym q

pub put-number-once : OneContent 1 put-number-kinds.ps put-number-kinds.r put-number.Post (λ κs s. s.0.now)
put-number-once κs a x y s t p q = p ∙ sym q

pub put-bytes-once : OneContent 2 put-bytes-kinds.ps put-bytes-kinds.r put-bytes.Post (λ κs s. s.0.now)
put-bytes-once κs a x y s t p q = p ∙ sym q

pub bytes-from-once : OneView 1 bytes-from-kinds.ps bytes-from-kinds.r bytes-from.Post (λ κs x. x.now)
bytes-from-once κs a x y s t p q = p ∙ sym q
