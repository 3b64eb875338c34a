use Rattle.std.proofs.Common.{refl, sym, ◌∙◌}
use Rattle.awari_lines.proofs.ends.Ends.connect.Goals as goal

pub returns : goal.returns
returns g c =
    let near = c.in_ok-out.ensures in
    let far = c.in_ok-theirs_out.ensures in
    record {
      owner = refl;
      pair = record { producer = c.in_ok-out.out; consumer = c.in_ok-theirs_out.back };
      added = c.in_ok-push.ensures.items;
      paired = (near.pair, far.pair);
      unused = (near.producer.0, far.consumer.0, far.consumer.1, near.producer.1 ∙ sym near.producer.2);
      unused_there = (far.producer.0, near.consumer.0, near.consumer.1, far.producer.1 ∙ sym far.producer.2);
      room = (near.producer.2, far.consumer.2);
      room_there = (far.producer.2, near.consumer.2);
    }
