-- What contracts see of the ends of a feed (queue).
use Rattle.std.specs.Prelude.{◌≡◌, ◌<◌, ◌≤◌, ◌+◌, ◌-◌, ℕ, true, false, List, [], ◌∷◌, ◌++◌}
use Rattle.atomic_table.specs.Seated.{TableId}
use Rattle.atomic_table.specs.declared.badge.Badge.{Badge}
use Rattle.crossbeam_channel.specs.declared.flavors.array.Key.{Key}
use Rattle.crossbeam_channel.specs.Claims.{Pass, view}
use Rattle.sgt_dispatch.specs.declared.item.Item.{Item}
use Rattle.sgt_dispatch.specs.declared.item.Item.TheVariants as Of
use Rattle.sgt_dispatch.specs.declared.log.Log.{Log}
use Rattle.sgt_dispatch.specs.declared.consumer.Take.{Take}
use Rattle.sgt_dispatch.specs.declared.consumer.Take.TheVariants.{Job, Stop, Gone}
use Rattle.sgt_dispatch.specs.Accounts.{AccountsForItems}

-- which feed an end is of
abbrev pub QueueId : Type 0
QueueId = TableId × Badge (Key Item)

-- the queue of a pass
abbrev pub queue_of : Pass Item Log → QueueId
queue_of pass = (pass.table_id, pass.me.0.of)

-- a producer: what it has sent, what each joined consumer had received, and how many consumers are not joined yet
pub record ProducerState : Type 0 where
  pub queue : QueueId
  pub put : List Item
  pub joined : List (List Item)
  pub unjoined : ℕ

-- a taker, a consumer: what it has received
pub record ConsumerState : Type 0 where
  pub queue : QueueId
  pub taken : List Item

-- the producer that holds this pass, with this many consumers not joined
abbrev pub producer_of : Pass Item Log → ℕ → ProducerState
producer_of pass unjoined = record { queue = queue_of pass; put = (view pass).put; joined = (view pass).joined; unjoined = unjoined }

-- the consumer that holds this pass
abbrev pub consumer_of : Pass Item Log → ConsumerState
consumer_of pass = record { queue = queue_of pass; taken = (view pass).taken }

-- the pass of a producer, with every share but those of the consumers that are not joined
pub record IsProducer (pass : Pass Item Log) (unjoined : ℕ) : Type 0 where
  pub some_part : 0 < (view pass).parts
  pub parts : (view pass).parts + unjoined ≡ 17
  pub is_producer : (view pass).is_producer ≡ true
  pub taken : (view pass).taken ≡ []

-- the pass of a taker, with one share
pub record IsConsumer (pass : Pass Item Log) : Type 0 where
  pub free : pass.me.1 ≡ []
  pub part : (view pass).parts ≡ 1
  pub is_producer : (view pass).is_producer ≡ false
  pub joined : (view pass).joined ≡ []

-- a producer that has sent nothing
abbrev pub new_producer : QueueId → ℕ → ProducerState
new_producer queue consumers = record { queue = queue; put = []; joined = []; unjoined = consumers }

-- a taker that has received nothing
abbrev pub new_consumer : QueueId → ConsumerState
new_consumer queue = record { queue = queue; taken = [] }

-- the capacities that a feed may have
abbrev pub IsCapacity : ℕ → Type 0
IsCapacity capacity = (1 ≤ capacity) × (capacity ≤ 1024)

-- how many jobs a feed may be made for
abbrev pub IsJobCount : ℕ → Type 0
IsJobCount jobs = jobs ≤ 1000000

-- how many takers a feed may have
abbrev pub IsConsumerCount : ℕ → Type 0
IsConsumerCount consumers = (1 ≤ consumers) × (consumers ≤ 16)

-- with one item more after those that were sent
abbrev pub with_put : Item → ProducerState → ProducerState
with_put item producer = record producer { put = producer.put ++ item ∷ [] }

-- with one taker fewer to join; it had received this
abbrev pub with_joined : List Item → ProducerState → ProducerState
with_joined taken producer = record producer { joined = producer.joined ++ taken ∷ []; unjoined = producer.unjoined - 1 }

-- with one item more after those that were received
abbrev pub with_taken : Item → ConsumerState → ConsumerState
with_taken item consumer = record consumer { taken = consumer.taken ++ item ∷ [] }

-- the consumer after this take
abbrev pub after_take : Take → ConsumerState → ConsumerState
after_take (Job job) consumer = with_taken (Of.Job job) consumer
after_take Stop consumer = with_taken Of.Stop consumer
after_take Gone consumer = consumer

-- the joined consumers' items are accounted for, whatever the queue holds
abbrev pub Accounted : ProducerState → Type 0
Accounted producer = (held : List Item) × AccountsForItems producer.put producer.joined held (producer.unjoined ≡ 0)
