-- No second answer, and no second content of what was lent, meets the contract of any public function of this crate.
-- Assumes nothing.
use mathlib.Core.Path.{sym, ◌∙◌}
use Rattle.lists.proofs.Once.{OneAnswer, OneContent}
use Rattle.entries_unprotected.proofs.slavotuk_open.Kinds as open-kinds
use Rattle.entries_unprotected.proofs.slavotuk_open.Reads as open-reads
use Rattle.entries_unprotected.proofs.slavotuk_close.Kinds as close-kinds
use Rattle.entries_unprotected.proofs.slavotuk_close.Reads as close-reads
use Rattle.entries_unprotected.proofs.slavotuk_select.Kinds as select-kinds
use Rattle.entries_unprotected.proofs.slavotuk_select.Reads as select-reads
use Rattle.entries_unprotected.proofs.slavotuk_start.Kinds as start-kinds
use Rattle.entries_unprotected.proofs.slavotuk_start.Reads as start-reads
use Rattle.entries_unprotected.proofs.slavotuk_continue.Kinds as continue-kinds
use Rattle.entries_unprotected.proofs.slavotuk_continue.Reads as continue-reads
use Rattle.entries_unprotected.proofs.slavotuk_elevate.Kinds as elevate-kinds
use Rattle.entries_unprotected.proofs.slavotuk_elevate.Reads as elevate-reads
use Rattle.entries_unprotected.proofs.slavotuk_drop.Kinds as drop-kinds
use Rattle.entries_unprotected.proofs.slavotuk_drop.Reads as drop-reads
use Rattle.entries_unprotected.proofs.slavotuk_fresh.Kinds as fresh-kinds
use Rattle.entries_unprotected.proofs.slavotuk_fresh.Reads as fresh-reads
use Rattle.entries_unprotected.proofs.slavotuk_holds.Kinds as holds-kinds
use Rattle.entries_unprotected.proofs.slavotuk_holds.Reads as holds-reads
use Rattle.entries_unprotected.proofs.slavotuk_version.Kinds as version-kinds
use Rattle.entries_unprotected.proofs.slavotuk_version.Reads as version-reads

pub open-once : OneAnswer 1 open-kinds.ps open-kinds.r open-reads.Post
open-once κs a x y s t p q = p.number_is ∙ sym q.number_is

pub open-bytes : OneContent 1 open-kinds.ps open-kinds.r open-reads.Post (λ κs s. s.0.now)
open-bytes κs a x y s t p q = p.bytes-are ∙ sym q.bytes-are

pub close-once : OneAnswer 1 close-kinds.ps close-kinds.r close-reads.Post
close-once κs a x y s t p q = p.number_is ∙ sym q.number_is

pub close-bytes : OneContent 1 close-kinds.ps close-kinds.r close-reads.Post (λ κs s. s.0.now)
close-bytes κs a x y s t p q = p.bytes-are ∙ sym q.bytes-are

pub select-once : OneAnswer 1 select-kinds.ps select-kinds.r select-reads.Post
select-once κs a x y s t p q = p.number_is ∙ sym q.number_is

pub select-bytes : OneContent 1 select-kinds.ps select-kinds.r select-reads.Post (λ κs s. s.0.now)
select-bytes κs a x y s t p q = p.bytes-are ∙ sym q.bytes-are

pub start-once : OneAnswer 2 start-kinds.ps start-kinds.r start-reads.Post
start-once κs a x y s t p q = p.number_is ∙ sym q.number_is

pub start-bytes : OneContent 2 start-kinds.ps start-kinds.r start-reads.Post (λ κs s. s.0.now)
start-bytes κs a x y s t p q = p.bytes-are ∙ sym q.bytes-are

pub continue-once : OneAnswer 2 continue-kinds.ps continue-kinds.r continue-reads.Post
continue-once κs a x y s t p q = p.number_is ∙ sym q.number_is

pub continue-bytes : OneContent 2 continue-kinds.ps continue-kinds.r continue-reads.Post (λ κs s. s.0.now)
continue-bytes κs a x y s t p q = p.bytes-are ∙ sym q.bytes-are

pub elevate-once : OneAnswer 2 elevate-kinds.ps elevate-kinds.r elevate-reads.Post
elevate-once κs a x y s t p q = p.number_is ∙ sym q.number_is

pub elevate-bytes : OneContent 2 elevate-kinds.ps elevate-kinds.r elevate-reads.Post (λ κs s. s.0.now)
elevate-bytes κs a x y s t p q = p.bytes-are ∙ sym q.bytes-are

pub drop-once : OneAnswer 1 drop-kinds.ps drop-kinds.r drop-reads.Post
drop-once κs a x y s t p q = p.number_is ∙ sym q.number_is

pub drop-bytes : OneContent 1 drop-kinds.ps drop-kinds.r drop-reads.Post (λ κs s. s.0.now)
drop-bytes κs a x y s t p q = p.bytes-are ∙ sym q.bytes-are

pub fresh-once : OneAnswer 4 fresh-kinds.ps fresh-kinds.r fresh-reads.Post
fresh-once κs a x y s t p q = p.number_is ∙ sym q.number_is

pub fresh-bytes : OneContent 4 fresh-kinds.ps fresh-kinds.r fresh-reads.Post (λ κs s. s.0.now)
fresh-bytes κs a x y s t p q = p.bytes-are ∙ sym q.bytes-are

pub holds-once : OneAnswer 1 holds-kinds.ps holds-kinds.r holds-reads.Post
holds-once κs a x y s t p q = p ∙ sym q

pub version-once : OneAnswer 0 version-kinds.ps version-kinds.r version-reads.Post
version-once κs a x y s t p q = p ∙ sym q
