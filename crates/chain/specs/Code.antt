-- What the code's structs stand for.
use Rattle.std.specs.Prelude.{List, ℕ}
use Rattle.chain.specs.Header.{Header, Stream}
use Rattle.chain.specs.Pack.{Order}
use Rattle.chain.specs.declared.header.Header.{Header as Fields}
use Rattle.chain.specs.declared.header.Stream.{Stream as Numbers}
use Rattle.chain.specs.declared.pack.Order.{Order as Wanted}

-- what is said of the blocks
abbrev pub stream_of : Numbers → Stream
stream_of s =
    record {
      count = s.count;
      block_size = s.block_size;
      hashsum_length = s.hashsum_length;
      ids = s.ids;
      padding = s.padding;
    }

-- the fields, with the root hash that stands behind them
abbrev pub header_with : Fields → List ℕ → Header
header_with h root =
    record {
      magic = h.magic;
      stream = stream_of h.stream;
      signature = h.signature;
      header_size = h.header_size;
      scheme = h.scheme;
      root = root;
    }

-- what a file is packed by, under these fields
abbrev pub order_of : List ℕ → Fields → Order
order_of file h =
    record { file = file; ids = h.stream.ids; block_size = h.stream.block_size; signature = h.signature }

-- what is to be packed
abbrev pub ordered : Wanted → Order
ordered o = record { file = o.file.now; ids = o.ids; block_size = o.block_size; signature = o.signature }
