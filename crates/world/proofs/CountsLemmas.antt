-- How counts grow over calls of any parts.
use Rattle.std.specs.Prelude.{◌≡◌, ℕ, ◌≤◌}
use Rattle.std.proofs.Common.{sym, subst, ap, arith}
use Rattle.world.specs.Counts.{
  Counts,
  CountsGrow,
  Rose,
  DiskCause,
  NetCause,
  WaitCause,
  ChildCause,
  RandCause,
  SayCause,
}

-- ---- one count

-- a count that rose later has risen since earlier
pub rose_since : (a b c : ℕ) → a ≤ b → Rose b c → Rose a c
rose_since a b c more rose = grind (arith, more, rose)

-- a count that rose has risen still
pub rose_still : (a b c : ℕ) → Rose a b → b ≤ c → Rose a c
rose_still a b c rose more = grind (arith, more, rose)

-- ---- all of them

-- no call was made
pub grow_start : (c : Counts) → CountsGrow c c
grow_start c = record {
  disk = omega arith;
  net = omega arith;
  waits = omega arith;
  child = omega arith;
  rand = omega arith;
  say = omega arith;
  last = omega arith;
}

-- a call that changes no count
pub grow_same : {old new : Counts} → new ≡ old → CountsGrow old new
grow_same {old} e = subst (CountsGrow old) (sym e) (grow_start old)

-- some calls and then others
pub grow_then : {a b c : Counts} → CountsGrow a b → CountsGrow b c → CountsGrow a c
grow_then x y = record {
  disk = omega (arith, x.disk, y.disk);
  net = omega (arith, x.net, y.net);
  waits = omega (arith, x.waits, y.waits);
  child = omega (arith, x.child, y.child);
  rand = omega (arith, x.rand, y.rand);
  say = omega (arith, x.say, y.say);
  last = omega (arith, x.last, y.last);
}

-- a call of the disk
pub disk_grows : {old new : Counts} {failed : Type 0} → DiskCause old new failed → CountsGrow old new
disk_grows {old} {new} c =
    subst (CountsGrow old) (sym c.others) (record {
      disk = c.disk.later;
      net = omega arith;
      waits = omega arith;
      child = omega arith;
      rand = omega arith;
      say = omega arith;
      last = omega arith;
    })

-- a call on connections
pub net_grows : {old new : Counts} {failed : Type 0} → NetCause old new failed → CountsGrow old new
net_grows {old} {new} c =
    subst (CountsGrow old) (sym c.others) (record {
      disk = omega arith;
      net = c.net.later;
      waits = omega arith;
      child = omega arith;
      rand = omega arith;
      say = omega arith;
      last = omega arith;
    })

-- a wait
pub wait_grows : {old new : Counts} {failed : Type 0} → WaitCause old new failed → CountsGrow old new
wait_grows {old} {new} c =
    let waits = subst (λ n. old.waits ≤ n) (ap (λ k. Counts.waits k) c.others) c.waits in
    subst (CountsGrow old) (sym c.others) (record {
      disk = omega arith;
      net = c.net.later;
      waits = waits;
      child = omega arith;
      rand = omega arith;
      say = omega arith;
      last = omega arith;
    })

-- a start of a child
pub child_grows : {old new : Counts} {failed : Type 0} → ChildCause old new failed → CountsGrow old new
child_grows {old} {new} c =
    subst (CountsGrow old) (sym c.others) (record {
      disk = omega arith;
      net = omega arith;
      waits = omega arith;
      child = c.child.later;
      rand = omega arith;
      say = omega arith;
      last = omega arith;
    })

-- a random word
pub rand_grows : {old new : Counts} {failed : Type 0} → RandCause old new failed → CountsGrow old new
rand_grows {old} {new} c =
    subst (CountsGrow old) (sym c.others) (record {
      disk = omega arith;
      net = omega arith;
      waits = omega arith;
      child = omega arith;
      rand = c.rand.later;
      say = omega arith;
      last = omega arith;
    })

-- what is said
pub say_grows : {old new : Counts} {failed : Type 0} → SayCause old new failed → CountsGrow old new
say_grows {old} {new} c =
    subst (CountsGrow old) (sym c.others) (record {
      disk = omega arith;
      net = omega arith;
      waits = omega arith;
      child = omega arith;
      rand = omega arith;
      say = c.say.later;
      last = omega arith;
    })

-- the clock
pub moment_grows : {old new : Counts} {ms : ℕ} → old.last ≤ ms → new ≡ record old { last = ms } → CountsGrow old new
moment_grows {old} later e =
    subst (CountsGrow old) (sym e) (record {
      disk = omega arith;
      net = omega arith;
      waits = omega arith;
      child = omega arith;
      rand = omega arith;
      say = omega arith;
      last = later;
    })
