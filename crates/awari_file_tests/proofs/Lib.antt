mod Log
