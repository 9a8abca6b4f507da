use Rattle.zmtp_peer.proofs.HeardLemmas.{written, writable, subscription_heard, pong_heard, no_ping, replies_read}
use Rattle.zmtp_peer.proofs.laws.replies_are_read.Goals as goal

pub returns : goal.returns
returns c = record {
  written = written;
  writable = writable;
  subscription = subscription_heard;
  pong = pong_heard;
  no_ping = no_ping;
  read = replies_read;
}
