-- The parts of the world are different ones.
use Rattle.std.proofs.Common.{◌≢◌}
use Rattle.world.specs.Parts.{OnDisk, OnWire, OnKids, OnClock, OnRand, OnSay}

pub disk_quiet : OnDisk ≢ OnSay
disk_quiet e = absurd (cc)

pub wire_quiet : OnWire ≢ OnSay
wire_quiet e = absurd (cc)

pub kids_quiet : OnKids ≢ OnSay
kids_quiet e = absurd (cc)

pub clock_quiet : OnClock ≢ OnSay
clock_quiet e = absurd (cc)

pub rand_quiet : OnRand ≢ OnSay
rand_quiet e = absurd (cc)

pub disk_childless : OnDisk ≢ OnKids
disk_childless e = absurd (cc)

pub wire_childless : OnWire ≢ OnKids
wire_childless e = absurd (cc)

pub rand_childless : OnRand ≢ OnKids
rand_childless e = absurd (cc)

pub rand_portless : OnRand ≢ OnWire
rand_portless e = absurd (cc)

pub kids_diskless : OnKids ≢ OnDisk
kids_diskless e = absurd (cc)

pub disk_portless : OnDisk ≢ OnWire
disk_portless e = absurd (cc)

pub kids_portless : OnKids ≢ OnWire
kids_portless e = absurd (cc)

pub disk_unclocked : OnDisk ≢ OnClock
disk_unclocked e = absurd (cc)

pub say_unclocked : OnSay ≢ OnClock
say_unclocked e = absurd (cc)

pub kids_unclocked : OnKids ≢ OnClock
kids_unclocked e = absurd (cc)
