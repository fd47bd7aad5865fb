use Rattle.std.proofs.Common.{arith, ◌<◌, ℕ, length, get_or, below_more}
use Rattle.ep_host.specs.Host.{BeginsBoth}
use Rattle.ep_host.proofs.Looking.{begins_both_back, looked_both, looked_each}
use Rattle.ep_host.proofs.Hosts.{host_both}
use Rattle.ep_host.proofs.account.account.Goals as goal

pub loop-low-preserved : goal.loop-low-preserved
loop-low-preserved c =
    let nodes = c.args.nodes.now in let low = c.loop-low.low in let high = c.loop-high.high in
    let l : low < length nodes = omega arith in let h : high < length nodes = omega arith in let below : low < high = omega arith in record {
      looked = looked_each nodes c.loop-low.nodes c.pair_at.new.nodes c.loop-low.invariant.looked c.pair_at.ensures.looked;
      begins = λ j d b. below_more (λ (k : ℕ). BeginsBoth (get_or nodes k d) (get_or nodes high d)) low (λ k m. c.loop-low.invariant.begins k d m)
          (begins_both_back (get_or nodes low d) (get_or nodes high d) (get_or c.loop-low.nodes low d) (get_or c.loop-low.nodes high d)
          (c.loop-low.invariant.looked.at low d l) (c.loop-low.invariant.looked.at high d h) (host_both c.requires.0 nodes high low d c.requires.1 below h) (c.pair_at.ensures.begins d)) j b;
    }

pub loop-high-preserved : goal.loop-high-preserved
loop-high-preserved c = let nodes = c.args.nodes.now in let high = c.loop-high.high in record {
  looked = c.loop-low.invariant.looked;
  begins = λ i j d below b. below_more (λ (k : ℕ). (m : ℕ) → m < k → BeginsBoth (get_or nodes m d) (get_or nodes k d)) high (λ k w m n. c.loop-high.invariant.begins k m d n w)
      (λ m n. let n' : m < c.loop-low.low = omega arith in c.loop-low.invariant.begins m d n') i b j below;
}

pub returns-clause-begins : goal.returns-clause-begins
returns-clause-begins c = λ i j d below b. let b' : i < c.loop-high.high = omega arith in c.loop-high.invariant.begins i j d below b'

pub pair_at-requires-clause-paired : goal.pair_at-requires-clause-paired
pair_at-requires-clause-paired c = λ d.
    let nodes = c.args.nodes.now in let low = c.loop-low.low in let high = c.loop-high.high in
    let l : low < length nodes = omega arith in let h : high < length nodes = omega arith in let below : low < high = omega arith in
    looked_both (get_or nodes low d) (get_or nodes high d) (get_or c.loop-low.nodes low d) (get_or c.loop-low.nodes high d) (c.loop-low.invariant.looked.at low d l) (c.loop-low.invariant.looked.at high d h)
    (host_both c.requires.0 nodes high low d c.requires.1 below h)
