mod Sequenced
