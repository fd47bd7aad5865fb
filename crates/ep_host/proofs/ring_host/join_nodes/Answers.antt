use Rattle.ep_host.specs.declared.link.Link.{Link}
use Rattle.ep_host.proofs.ring_host.join_nodes.Goals as goal

pub returns : goal.returns
returns c =
    let there : Link = record { peer = c.me-b_me.result; to = c.in_ok-a_to_b.a_to_b; from = c.in_ok-b_to_a.a_from_b; count = 0; held = c.new-3.result } in
    let here : Link = record { peer = c.me-a_me.result; to = c.in_ok-b_to_a.b_to_a; from = c.in_ok-a_to_b.b_from_a; count = 0; held = c.new-4.result } in record {
      there = there;
      here = here;
      a_is = c.in_ok-add_link.ensures;
      b_is = c.in_ok-add_link-2.ensures;
      there_peer = c.me-b_me.ensures;
      here_peer = c.me-a_me.ensures;
      there_room = record { room = c.in_ok-a_to_b.ensures.producer.2; free = c.in_ok-a_to_b.ensures.producer.1 };
      here_room = record { room = c.in_ok-b_to_a.ensures.producer.2; free = c.in_ok-b_to_a.ensures.producer.1 };
      out = c.in_ok-a_to_b.ensures.pair;
      back = c.in_ok-b_to_a.ensures.pair;
    }
