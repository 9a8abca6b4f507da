use Rattle.std.proofs.Common.{codes, ap}
use Rattle.jtext.specs.declared.json.Json.TheVariants as json
use Rattle.kspec.proofs.Pairs.{put_next, put_text_next}
use Rattle.kspec.proofs.connection.connection.Goals as goal

pub returns : goal.returns
returns c =
    let ports = put_next _ c.in_ok-put_port-3.ensures (put_next _ c.in_ok-put_port-2.ensures (put_next _ c.in_ok-put_port.ensures c.new-fields.ensures)) in
    let key = put_text_next (codes "key") c.args.key.now c.in_ok-put_text-2.ensures.ok c.as_str.ensures (put_next _ c.in_ok-put_text.ensures.ok ports) in
    ap json.Obj (put_next _ c.in_ok-put_text-4.ensures.ok (put_next _ c.in_ok-put_port-5.ensures (put_next _ c.in_ok-put_text-3.ensures.ok (put_next _ c.in_ok-put_port-4.ensures key))))
