-- No second answer meets the contract of any public function of this crate, and no second content of the part that was lent.
-- Assumes nothing.
use Rattle.std.proofs.Common.{sym, ◌∙◌}
use Rattle.lists.proofs.Once.{OneAnswer, OneContent}
use Rattle.names.proofs.type_of.Kinds as type-of-kinds
use Rattle.names.proofs.type_of.Reads as type-of
use Rattle.names.proofs.type_number.Kinds as type-number-kinds
use Rattle.names.proofs.type_number.Reads as type-number
use Rattle.names.proofs.type_numbered.Kinds as type-numbered-kinds
use Rattle.names.proofs.type_numbered.Reads as type-numbered
use Rattle.names.proofs.kind_of.Kinds as kind-of-kinds
use Rattle.names.proofs.kind_of.Reads as kind-of
use Rattle.names.proofs.same.Kinds as same-kinds
use Rattle.names.proofs.same.Reads as same
use Rattle.names.proofs.digest.Kinds as digest-kinds
use Rattle.names.proofs.digest.Reads as digest
use Rattle.names.proofs.read_name.Kinds as read-name-kinds
use Rattle.names.proofs.read_name.Reads as read_name
use Rattle.names.proofs.put_name.Kinds as put-name-kinds
use Rattle.names.proofs.put_name.Reads as put-name

pub type-of-once : OneAnswer 0 type-of-kinds.ps type-of-kinds.r type-of.Post
type-of-once κs a x y s t p q = p ∙ sym q

pub type-number-once : OneAnswer 0 type-number-kinds.ps type-number-kinds.r type-number.Post
type-number-once κs a x y s t p q = p ∙ sym q

pub type-numbered-once : OneAnswer 0 type-numbered-kinds.ps type-numbered-kinds.r type-numbered.Post
type-numbered-once κs a x y s t p q = p ∙ sym q

pub kind-of-once : OneAnswer 0 kind-of-kinds.ps kind-of-kinds.r kind-of.Post
kind-of-once κs a x y s t p q = p ∙ sym q

pub same_once : OneAnswer 0 same-kinds.ps same-kinds.r same.Post
same_once κs a x y s t p q = p ∙ sym q

pub digest-once : OneAnswer 0 digest-kinds.ps digest-kinds.r digest.Post
digest-once κs a x y s t p q = p ∙ sym q

pub read-name-once : OneAnswer 1 read-name-kinds.ps read-name-kinds.r read_name.Post
read-name-once κs a x y s t p q = p ∙ sym q

pub put-name-once : OneContent 1 put-name-kinds.ps put-name-kinds.r put-name.Post (λ κs s. s.0.now)
put-name-once κs a x y s t p q = p ∙ sym q
