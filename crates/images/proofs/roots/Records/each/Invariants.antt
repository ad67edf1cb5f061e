use Rattle.std.proofs.Common.{◌≡◌, ◌≤◌, List, ℕ, length}
use Rattle.images.specs.Inner.{pops, Chain, Each, sort_code}
use Rattle.images.proofs.RootLaws.{Pending}
use Rattle.images.proofs.roots.Records.each.Given as goal

abbrev pub invariant-loop-left : goal.invariant-loop-left
invariant-loop-left l =
    ((tags : List ℕ) → Chain l.self.bytes.now l.self.links.now l.from tags → l.n ≤ length tags → Pending l.self.bytes.now l.self.links.now (Each (sort_code l.sort)) l.n tags l.m l._left)
    × (pops l.self.links.now l.m l._left ≡ pops l.self.links.now l.from l.n)
