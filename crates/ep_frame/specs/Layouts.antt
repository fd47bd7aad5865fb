-- The parts that the code's structs borrow.
use Rattle.std.specs.Prelude.{◌+◌, take, drop}
use Rattle.ep_base.specs.Messages.{says}
use Rattle.ep_base.specs.declared.message.Message.{Message}
use Rattle.ep_frame.specs.declared.layout.Layout.{Layout}
use Rattle.ep_frame.specs.declared.instance_message.InstanceMessage.{InstanceMessage}
use Rattle.ep_frame.specs.Spelling.{FrameParts}

-- what goes into a frame: both keys and the body stand in one run
abbrev pub parts_in : Layout → FrameParts
parts_in l =
    let h = l.header in
    record {
      header = h;
      key = take h.key_len l.run.now;
      second = take h.second_len (drop h.key_len l.run.now);
      body = drop (h.key_len + h.second_len) l.run.now;
      deps = l.deps.now;
    }

-- the message whose parts these are
abbrev pub as_message : InstanceMessage → Message
as_message t = says t.instance t.said
